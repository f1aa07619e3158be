-- What connections give back, as what is done with bricks that are lent.
use Rattle.std.proofs.Common.{◌≡◌, List, [], ◌∷◌, ◌++◌, Option, Some, None, refl, sym, ap, ◌∙◌, subst, arith}
use Rattle.std.specs.Prelude.{All}
use Rattle.std.specs.Option.{option_map}
use Rattle.std.proofs.lemmas.List.Elements.{All-nil, All-cons, All-append}
use Rattle.crash_base.specs.declared.numbers.Version.{Version}
use Rattle.seat_lines.specs.Giving.{given_back, sessions_given_back}
use Rattle.seat_steps.specs.Gone.{seat_gone, stage_gone}
use Rattle.seat_steps.specs.Twinned.{way_in}
use Rattle.seat_steps.specs.declared.seat.Seat.{Seat}
use Rattle.send_windows.specs.Calls.{Spend}
use Rattle.send_windows.specs.declared.pass.Pass.{Pass}
use Rattle.session_lanes.specs.Lanes.{LanesState}
use Rattle.session_steps.specs.Lent.{LentStep, CallsWindows, BeginsSo, GoesLent, WasDrawn, after_lent, after_lent_step}
use Rattle.session_steps.specs.Promise.{Lead}
use Rattle.session_steps.specs.Sessions.{SessionsState}
use Rattle.session_way.specs.Way.{after_give_back, held}
use Rattle.scenario_engine.specs.Lending.{give_lends, passes_lend}
use Rattle.scenario_engine.specs.Sessions.{lent_if_any}

-- bricks after steps, and then more
pub lent-append : (st : LanesState) (steps more : List LentStep) → after_lent st (steps ++ more) ≡ after_lent (after_lent st steps) more
lent-append st [] more = refl
lent-append st (step ∷ steps) more = lent-append (after_lent_step st step) steps more

passes_given : (st : LanesState) (passes : Option (List Pass)) → after_lent st (passes_lend passes) ≡ (let after : LanesState = record st { windows = after_give_back st.windows passes } in after)
passes_given st None = refl
passes_given st (Some passes) = refl

gone_lends : (seat : Seat) (st : LanesState) → after_lent st (passes_lend (held (way_in seat.connection.stage))) ≡ (seat_gone seat st).store
unfolding stage_gone
gone_lends seat st = passes_given st (held (way_in seat.connection.stage))

all_given : (seats : List (Option Seat)) (st : LanesState) → after_lent st (give_lends seats) ≡ given_back seats st
all_given [] st = refl
all_given (None ∷ seats) st = all_given seats st
all_given (Some seat ∷ seats) st =
    lent-append st (passes_lend (held (way_in seat.connection.stage))) (give_lends seats)
    ∙ (ap (λ (after : LanesState). after_lent after (give_lends seats)) (gone_lends seat st) ∙ all_given seats (seat_gone seat st).store)

-- with the bricks, if there are some
some_given : (seats : List (Option Seat)) (store : Option LanesState) → option_map (given_back seats) store ≡ option_map (λ (st : LanesState). after_lent st (give_lends seats)) store
some_given seats None = refl
some_given seats (Some st) = ap (λ (after : LanesState). Some after) (sym (all_given seats st))

-- no call begins
passes_begin : (So : Version → Type 0) (passes : Option (List Pass)) → All (BeginsSo So) (passes_lend passes)
passes_begin So None = All-nil (BeginsSo So)
passes_begin So (Some passes) = All-cons (BeginsSo So) (CallsWindows (Spend passes)) [] tt (All-nil (BeginsSo So))

give_begins : (So : Version → Type 0) (seats : List (Option Seat)) → All (BeginsSo So) (give_lends seats)
give_begins So [] = All-nil (BeginsSo So)
give_begins So (None ∷ seats) = give_begins So seats
give_begins So (Some seat ∷ seats) =
    All-append (BeginsSo So) (passes_lend (held (way_in seat.connection.stage))) (give_lends seats) (passes_begin So (held (way_in seat.connection.stage))) (give_begins So seats)

-- bricks with which nothing is done
none_given : (store : Option LanesState) → option_map (λ (st : LanesState). after_lent st []) store ≡ store
none_given None = refl
none_given (Some st) = refl

-- what connections give back leads the sessions to those after it
pub given_leads : (s : SessionsState) (seats : List (Option Seat)) → Lead s (lent_if_any (give_lends seats) s.serial) (sessions_given_back seats s)
given_leads s seats = go (give_lends seats) refl
  where
    go : (steps : List LentStep) → give_lends seats ≡ steps → Lead s (lent_if_any steps s.serial) (sessions_given_back seats s)
    go [] is =
        ap (λ (store : Option LanesState). (let t : SessionsState = record s { store = store } in t)) (some_given seats s.store ∙ ap (λ (steps : List LentStep). option_map (λ (st : LanesState). after_lent st steps) s.store) is ∙ none_given s.store)
    go (step ∷ more) is =
        let lent : GoesLent s (give_lends seats) s.serial (sessions_given_back seats s) = record {
          state_is = ap (λ (store : Option LanesState). (let t : SessionsState = record s { store = store } in t)) (some_given seats s.store);
          serials = omega arith;
          nonces = give_begins (WasDrawn s.boot s.serial) seats;
        } in
        (sessions_given_back seats s, subst (λ (steps : List LentStep). GoesLent s steps s.serial (sessions_given_back seats s)) is lent, refl)
