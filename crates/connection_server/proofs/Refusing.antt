-- What a seat has seen of windows that were full stays so as their history goes on.
use Rattle.std.specs.Prelude.{IfSome, option_to_list}
use Rattle.std.proofs.Common.{◌≡◌, List, [], ◌∷◌, ◌++◌, append-nil, Option, Some, None, sym, subst}
use Rattle.std.proofs.lemmas.List.Elements.{All-push, All-weaker}
use mathlib.Core.List.{IsPrefix}
use Rattle.send_windows.specs.Windows.{WindowsValue}
use Rattle.send_windows.specs.declared.fact.WindowFact.{WindowFact}
use Rattle.send_windows.specs.declared.history.WindowMark.{WindowMark}
use Rattle.send_windows.specs.declared.history.WindowMark.TheVariants as mark
use Rattle.served_connections.specs.Full.{IsFoundFull}
use Rattle.site_locks.specs.Holds.{HoldsWindows}
use Rattle.turn_lock.specs.Seats.{SeatValue}
use Rattle.connection_server.specs.Refusing.{AllRefused, WereRefused}
use Rattle.connection_server.proofs.Growing.{held_seen, prefix_trans}

pub refused_on : (history after : List WindowMark) (lists : List (List WindowFact)) → IsPrefix history after → AllRefused history lists → AllRefused after lists
refused_on history after lists on all =
    All-weaker (λ (full : List WindowFact). WereRefused history full) (λ (full : List WindowFact). WereRefused after full)
    (λ full r. record {
      windows = r.windows;
      limits = r.limits;
      behind = prefix_trans (r.windows.history ++ mark.Refused ∷ []) history after r.behind on;
      few = r.few;
      full_are = r.full_are;
    }) lists all

module _ (old new : SeatValue WindowMark) (before after : WindowsValue) (hold : HoldsWindows old new before after) where
  seen_after : new.seen ≡ after.history
  seen_after = held_seen old new before.history after.history hold.hold

  -- behind a hold of the windows
  pub hold_refused : (lists : List (List WindowFact)) → AllRefused old.seen lists → AllRefused new.seen lists
  hold_refused lists all =
      subst (λ (history : List WindowMark). AllRefused history lists) (sym seen_after)
      (refused_on old.seen after.history lists (prefix_trans old.seen before.history after.history hold.hold.begun hold.hold.grown) all)

  one_refused : (full : List WindowFact) → IsFoundFull before after full → WereRefused new.seen full
  one_refused full found = record {
    windows = before;
    limits = hold.found;
    behind = subst (λ (history : List WindowMark). IsPrefix history new.seen) found.refused (subst (λ (history : List WindowMark). IsPrefix after.history history) (sym seen_after) ([], append-nil after.history));
    few = found.few;
    full_are = found.full_are;
  }

  -- behind one at which passes may have been refused
  pub next_refused : (lists : List (List WindowFact)) (told : Option (List WindowFact)) → IfSome told (λ full. IsFoundFull before after full) → AllRefused old.seen lists → AllRefused new.seen (lists ++ option_to_list told)
  next_refused lists None found all = subst (λ (l : List (List WindowFact)). AllRefused new.seen l) (sym (append-nil lists)) (hold_refused lists all)
  next_refused lists (Some full) found all = All-push (λ (x : List WindowFact). WereRefused new.seen x) lists full (hold_refused lists all) (one_refused full found)
