-- Connections that stand over the bricks stand behind each line about one, where what they hear is spelled: their
-- twins are apart, and the write that each owes is new to the world. So does each step of theirs.
use Rattle.std.proofs.Common.{◌≡◌, ◌≢◌, ◌⊎◌, inl, inr, ℕ, zero, suc, ◌+◌, ◌-◌, ◌^◌, ◌<◌, ◌≤◌, Bool, true, false, cond, List, [], ◌∷◌, ◌++◌, length, Option, Some, None, is_some, refl, sym, ap, ◌∙◌, subst, arith}
use Rattle.std.specs.Prelude.{All, IfSome, replicate, slice_get, slice_set}
use Rattle.std.specs.Option.{option_map}
use Rattle.std.proofs.lemmas.List.Elements.{All-cons, All-head, All-nil, All-tail}
use Rattle.crash_base.specs.declared.numbers.Version.{Version}
use Rattle.lane_link.specs.Twins.{ByEvents, call_held}
use Rattle.scenario_text.specs.Answer.{Answer, Refused, Done, or_refused, refused_if, within}
use Rattle.scenario_text.specs.declared.seat_line.SeatLine.{SeatLine}
use Rattle.scenario_text.specs.declared.seat_line.SeatLine.TheVariants as lines
use Rattle.scenario_text.proofs.Leaving.{Leaves, leaves-refused_if}
use Rattle.seat_laws.specs.Drawing.{SeatHasDrawn}
use Rattle.seat_laws.specs.LentSteps.{lent_steps}
use Rattle.seat_laws.specs.Ordering.{OrdersOwn}
use Rattle.seat_laws.specs.Owing.{BeginsWith, IsDrawnIn, write_owed}
use Rattle.seat_laws.specs.Standing.{AreApart, HoldsNew, SeatStands}
use Rattle.seat_lines.specs.Lines.{bytes_line, bytes_step, conn_line, end_line, end_step, ended, fed, givens_of, is_beyond, new_seat, open_line, place_step, step_line, step_over, steps_at, with_place, world_of}
use Rattle.seat_lines.specs.Runs.{rests}
use Rattle.seat_lines.specs.Site.{SiteState, padded, seat_at, with_seat}
use Rattle.seat_steps.specs.Replies.{SeatHears}
use Rattle.seat_steps.specs.Seats.{SeatGivens, SeatOutcome, SeatWorld, seat_step}
use Rattle.seat_steps.specs.Twinned.{way_in}
use Rattle.seat_steps.specs.declared.seat.Seat.{Seat}
use Rattle.send_windows.specs.Windows.{KeepLimits}
use Rattle.session_lanes.specs.Lanes.{LanesState}
use Rattle.session_lanes.specs.Sound.{LanesAreSound}
use Rattle.session_steps.specs.Kept.{HasSoundStore}
use Rattle.session_steps.specs.Lent.{BeginsSo, LentStep, WasDrawn, after_lent}
use Rattle.session_steps.specs.Sessions.{SessionsState, nonce}
use Rattle.shepherd.specs.Shepherds.{fresh, turn}
use Rattle.shepherd.specs.declared.shepherd.ShepherdTurn.{ShepherdTurn}
use Rattle.shepherd.specs.declared.shepherd.ShepherdTurn.TheVariants as turns
use Rattle.ssm_world.specs.Worlds.{is_new, nonce_of}
use Rattle.ssm_world.specs.declared.call.Call.{Call}
use Rattle.scenario_engine.specs.Lending.{lends_by}
use Rattle.seat_lines.specs.Making.{LineHearsSpelled, StepHearsSpelled, StepMade, line_makes, run_makes, step_makes}
use Rattle.scenario_engine.specs.Seats.{after_steps}
use Rattle.scenario_engine.proofs.SeatsLead.{DrawLaws, Goes, IfDrew, SiteHasDrawn, drew_here, goes_step}
use Rattle.seat_lines.specs.Hearing.{manager_after}

-- what is promised of seats, and of the bricks behind what is done with them
pub record StandLaws : Type 0 where
  pub stands : (g : SeatGivens) (seat : Seat) (w : SeatWorld) → SeatStands seat w.store → SeatHears seat w.store → (seat.twin ≡ None → HoldsNew w.store (way_in (seat_step g seat w).seat.connection.stage)) → SeatStands (seat_step g seat w).seat (seat_step g seat w).world.store
  pub others : (g : SeatGivens) (seat other : Seat) (w : SeatWorld) → SeatStands seat w.store → SeatHears seat w.store → SeatStands other w.store → AreApart seat.twin other.twin → SeatStands other (seat_step g seat w).world.store
  pub apart : (g : SeatGivens) (seat other : Seat) (w : SeatWorld) → SeatStands seat w.store → SeatHears seat w.store → SeatStands other w.store → AreApart seat.twin other.twin → AreApart (seat_step g seat w).seat.twin other.twin
  pub begins : (st : LanesState) → LanesAreSound st → KeepLimits st.windows → SeatStands (record { connection = fresh; twin = None }) st
  pub still : (seat new : Seat) (st : LanesState) → new.connection.stage ≡ seat.connection.stage → new.twin ≡ seat.twin → SeatStands seat st → SeatStands new st
  pub calls : (seat : Seat) (st later : LanesState) → SeatStands seat st → LanesAreSound later → KeepLimits later.windows → ((number : ℕ) (call : Call) → seat.twin ≡ Some number → slice_get st.world.calls number ≡ Some call → slice_get later.world.calls number ≡ Some call) → SeatStands seat later
  pub owed : (g : SeatGivens) (seat : Seat) (w : SeatWorld) (v : Version) → write_owed (seat_step g seat w).seat.connection.stage ≡ Some v → (write_owed seat.connection.stage ≡ Some v) ⊎ IsDrawnIn w (seat_step g seat w).world.serial v
  pub orders : (g : SeatGivens) (seat : Seat) (w : SeatWorld) → OrdersOwn seat.connection.stage → OrdersOwn (seat_step g seat w).seat.connection.stage
  pub begun : (g : SeatGivens) (seat : Seat) (w : SeatWorld) (held : Call) → SeatStands seat w.store → OrdersOwn seat.connection.stage → seat.twin ≡ None → call_held (way_in (seat_step g seat w).seat.connection.stage) ≡ Some held → BeginsWith g seat w (nonce_of held)
  pub alone : (g : SeatGivens) (seat : Seat) (w : SeatWorld) (other : Version) → ((held : Call) → seat.twin ≡ None → call_held (way_in (seat_step g seat w).seat.connection.stage) ≡ Some held → nonce_of held ≢ other) → All (BeginsSo (λ (v : Version). v ≢ other)) (lent_steps g seat w)
  pub leaves : (st : LanesState) (steps : List LentStep) (other : Version) → HasSoundStore (Some st) → All (BeginsSo (λ (v : Version). v ≢ other)) steps → is_new st.world other ≡ true → is_new (after_lent st steps).world other ≡ true
  pub last : (g : SeatGivens) (seat : Seat) (w : SeatWorld) (number : ℕ) → SeatStands seat w.store → SeatHears seat w.store → seat.twin ≡ None → (seat_step g seat w).seat.twin ≡ Some number → number ≡ length w.store.world.calls
  pub same : (g : SeatGivens) (seat : Seat) (w : SeatWorld) (number other : ℕ) → seat.twin ≡ Some number → (seat_step g seat w).seat.twin ≡ Some other → other ≡ number
  pub events : (st : LanesState) (steps : List LentStep) → ByEvents st (after_lent st steps)

-- What else is kept of the bricks, which events keep, and of the twin at each place, which holds of none and of one
-- that begins.
pub record KeptLaws (L : LanesState → Type 0) (K : ℕ → Option ℕ → Type 0) : Type 0 where
  pub goes : (st later : LanesState) → ByEvents st later → L st → L later
  pub none : (place : ℕ) → K place None
  pub begins : (st : LanesState) (place : ℕ) → L st → K place (Some (length st.world.calls))

-- a connection stands, has ordered only its own write, and the write that it owes is new to the world
pub record IsGood (st : LanesState) (a : Seat) : Type 0 where
  pub stands : SeatStands a st
  pub orders : OrdersOwn a.connection.stage
  pub owed : (v : Version) → write_owed a.connection.stage ≡ Some v → is_new st.world v ≡ true

-- two connections have no twin in common, and owe no write of one nonce
pub record AreTwo (a b : Seat) : Type 0 where
  pub twins : AreApart a.twin b.twin
  pub owed : (v : Version) → write_owed a.connection.stage ≡ Some v → write_owed b.connection.stage ≢ Some v

-- all connections stand, each apart from the others
pub record AllStand (seats : List (Option Seat)) (st : LanesState) : Type 0 where
  pub each : (i : ℕ) (a : Seat) → seat_at seats i ≡ Some a → IsGood st a
  pub pairs : (i j : ℕ) (a b : Seat) → i ≢ j → seat_at seats i ≡ Some a → seat_at seats j ≡ Some b → AreTwo a b

-- this is so of the twin at each place
abbrev pub TwinsAre : (ℕ → Option ℕ → Type 0) → List (Option Seat) → Type 0
TwinsAre K seats = (i : ℕ) (a : Seat) → seat_at seats i ≡ Some a → K i a.twin

-- all connections stand, and this is so of their twins
pub record ArePlaced (K : ℕ → Option ℕ → Type 0) (seats : List (Option Seat)) (st : LanesState) : Type 0 where
  pub all : AllStand seats st
  pub twins : TwinsAre K seats

-- no call has had a nonce that is still to be drawn
abbrev pub AreFresh : SessionsState → LanesState → Type 0
AreFresh s st = (serial : ℕ) → s.serial ≤ serial → is_new st.world (record (nonce s) { serial = serial }) ≡ true

-- connections by their numbers

none_stands : (i : ℕ) (a : Seat) → seat_at [] i ≡ Some a → ⊥
none_stands i a is = cc

some_seat : (x a : Seat) → Some x ≡ Some a → x ≡ a
some_seat x a is = cc

no_seat : (a : Seat) → None ≡ Some a → ⊥
no_seat a is = cc

pub no_seats_stand : (st : LanesState) → AllStand [] st
no_seats_stand st = record { each = λ i a is. absurd (none_stands i a is); pairs = λ i j a b apart is other. absurd (none_stands i a is) }

pub no_seats_placed : (K : ℕ → Option ℕ → Type 0) (st : LanesState) → ArePlaced K [] st
no_seats_placed K st = record { all = no_seats_stand st; twins = λ i a is. absurd (none_stands i a is) }

-- a place after one was set
abbrev IsSet : List (Option Seat) → ℕ → Option Seat → ℕ → Seat → Type 0
IsSet seats n o i a = ((i ≡ n) × (o ≡ Some a)) ⊎ ((i ≢ n) × (seat_at seats i ≡ Some a))

set_more : (x : Option Seat) (xs : List (Option Seat)) (n i : ℕ) (o : Option Seat) (a : Seat) → IsSet xs n o i a → IsSet (x ∷ xs) (suc n) o (suc i) a
set_more x xs n i o a (inl (same, is)) = inl (ap suc same, is)
set_more x xs n i o a (inr (other, is)) = inr ((λ e. other (omega (arith, e))), is)

at_set : (seats : List (Option Seat)) (n : ℕ) (o : Option Seat) (i : ℕ) (a : Seat) → seat_at (slice_set seats n o) i ≡ Some a → IsSet seats n o i a
at_set [] n o i a is = absurd (none_stands i a is)
at_set (x ∷ xs) zero o zero a is = inl (refl, is)
at_set (x ∷ xs) zero o (suc i) a is = inr ((λ e. let clash : suc i ≡ 0 = e in omega (arith, clash)), is)
at_set (x ∷ xs) (suc n) o zero a is = inr ((λ e. let clash : 0 ≡ suc n = e in omega (arith, clash)), is)
at_set (x ∷ xs) (suc n) o (suc i) a is = set_more x xs n i o a (at_set xs n o i a is)

none_padded : (k i : ℕ) (a : Seat) → seat_at (replicate k None) i ≡ Some a → ⊥
none_padded zero i a is = none_stands i a is
none_padded (suc k) zero a is = cc
none_padded (suc k) (suc i) a is = none_padded k i a is

at_padded : (seats : List (Option Seat)) (k i : ℕ) (a : Seat) → seat_at (seats ++ replicate k None) i ≡ Some a → seat_at seats i ≡ Some a
at_padded [] k i a is = absurd (none_padded k i a is)
at_padded (x ∷ xs) k zero a is = is
at_padded (x ∷ xs) k (suc i) a is = at_padded xs k i a is

two_turned : (a b : Seat) → AreTwo a b → AreTwo b a
two_turned a b two = record { twins = λ number theirs ours. two.twins number ours theirs; owed = λ v theirs ours. two.owed v ours theirs }

-- one place is set, over bricks behind a change that leaves the others good
set_stands : (seats : List (Option Seat)) (n : ℕ) (o : Option Seat) (st later : LanesState) → AllStand seats st
    → ((a : Seat) → o ≡ Some a → IsGood later a)
    → ((j : ℕ) (b : Seat) → j ≢ n → seat_at seats j ≡ Some b → IsGood later b)
    → ((a : Seat) (j : ℕ) (b : Seat) → o ≡ Some a → j ≢ n → seat_at seats j ≡ Some b → AreTwo a b)
    → AllStand (slice_set seats n o) later
set_stands seats n o st later all here others apart = record {
  each = λ i a is. one i a (at_set seats n o i a is);
  pairs = λ i j a b unlike is other. two i j a b unlike (at_set seats n o i a is) (at_set seats n o j b other);
}
  where
    one : (i : ℕ) (a : Seat) → IsSet seats n o i a → IsGood later a
    one i a (inl (same, is)) = here a is
    one i a (inr (other, is)) = others i a other is

    two : (i j : ℕ) (a b : Seat) → i ≢ j → IsSet seats n o i a → IsSet seats n o j b → AreTwo a b
    two i j a b unlike (inl (same, is)) (inl (also, its)) = absurd (unlike (same ∙ sym also))
    two i j a b unlike (inl (same, is)) (inr (other, its)) = apart a j b is other its
    two i j a b unlike (inr (other, is)) (inl (also, its)) = two_turned b a (apart b i a its other is)
    two i j a b unlike (inr (other, is)) (inr (also, its)) = all.pairs i j a b unlike is its

-- where it is another of the same stage and twin, or none
set_same : (laws : StandLaws) (seats : List (Option Seat)) (n : ℕ) (st : LanesState) (seat new : Seat) → AllStand seats st → seat_at seats n ≡ Some seat → new.connection.stage ≡ seat.connection.stage → new.twin ≡ seat.twin → AllStand (slice_set seats n (Some new)) st
set_same laws seats n st seat new all there stage twin =
    set_stands seats n (Some new) st st all
    (λ a is. subst (IsGood st) (some_is a is) good)
    (λ j b other is. all.each j b is)
    (λ a j b is other its. subst (λ (x : Seat). AreTwo x b) (some_is a is) (apart j b other its))
  where
    some_is : (a : Seat) → Some new ≡ Some a → new ≡ a
    some_is a is = cc

    old : IsGood st seat
    old = all.each n seat there

    good : IsGood st new
    good = record {
      stands = laws.still seat new st stage twin old.stands;
      orders = subst OrdersOwn (sym stage) old.orders;
      owed = λ v owed. old.owed v (ap write_owed (sym stage) ∙ owed);
    }

    apart : (j : ℕ) (b : Seat) → j ≢ n → seat_at seats j ≡ Some b → AreTwo new b
    apart j b other its =
        let two : AreTwo seat b = all.pairs n j seat b (λ e. other (sym e)) there its in
        record { twins = λ number ours. two.twins number (sym twin ∙ ours); owed = λ v ours. two.owed v (ap write_owed (sym stage) ∙ ours) }

set_none : (seats : List (Option Seat)) (n : ℕ) (st : LanesState) → AllStand seats st → AllStand (slice_set seats n None) st
set_none seats n st all =
    set_stands seats n None st st all (λ a is. absurd (no_seat a is)) (λ j b other is. all.each j b is) (λ a j b is other its. absurd (no_seat a is))
  where
    no_seat : (a : Seat) → None ≡ Some a → ⊥
    no_seat a is = cc

-- connections after each number got a place
padded_stand : (seats : List (Option Seat)) (n : ℕ) (st : LanesState) → AllStand seats st → AllStand (padded seats n) st
padded_stand seats n st all =
    let k : ℕ = n + 1 - length seats in
    record {
      each = λ i a is. all.each i a (at_padded seats k i a is);
      pairs = λ i j a b unlike is other. all.pairs i j a b unlike (at_padded seats k i a is) (at_padded seats k j b other);
    }

-- twins where a place is set

set_twins : (K : ℕ → Option ℕ → Type 0) (seats : List (Option Seat)) (n : ℕ) (o : Option Seat) → TwinsAre K seats → ((a : Seat) → o ≡ Some a → K n a.twin) → TwinsAre K (slice_set seats n o)
set_twins K seats n o all here = λ i a is. one i a (at_set seats n o i a is)
  where
    one : (i : ℕ) (a : Seat) → IsSet seats n o i a → K i a.twin
    one i a (inl (same, is)) = subst (λ (x : ℕ). K x a.twin) (sym same) (here a is)
    one i a (inr (other, is)) = all i a is

set_twin : (K : ℕ → Option ℕ → Type 0) (seats : List (Option Seat)) (n : ℕ) (new : Seat) → TwinsAre K seats → K n new.twin → TwinsAre K (slice_set seats n (Some new))
set_twin K seats n new all here = set_twins K seats n (Some new) all (λ a is. subst (λ (x : Seat). K n x.twin) (some_seat new a is) here)

set_no_twin : (K : ℕ → Option ℕ → Type 0) (seats : List (Option Seat)) (n : ℕ) → TwinsAre K seats → TwinsAre K (slice_set seats n None)
set_no_twin K seats n all = set_twins K seats n None all (λ a is. absurd (no_seat a is))

padded_twins : (K : ℕ → Option ℕ → Type 0) (seats : List (Option Seat)) (n : ℕ) → TwinsAre K seats → TwinsAre K (padded seats n)
padded_twins K seats n all = let k : ℕ = n + 1 - length seats in λ i a is. all i a (at_padded seats k i a is)

-- One step over bricks.
pub record IsWhole (L : LanesState → Type 0) (K : ℕ → Option ℕ → Type 0) (s : SiteState) (st : LanesState) : Type 0 where
  pub fresh : AreFresh s.sessions st
  pub all : AllStand s.seats.seats st
  pub later : L st
  pub twins : TwinsAre K s.seats.seats

-- so is a site with bricks, while serials are left
abbrev pub WholeIf : (LanesState → Type 0) → (ℕ → Option ℕ → Type 0) → SiteState → Type 0
WholeIf L K s = (st : LanesState) → s.sessions.store ≡ Some st → s.sessions.serial < 2 ^ 64 - 1 → IsWhole L K s st

-- What is known of a step that is made.
pub record IsStep (L : LanesState → Type 0) (K : ℕ → Option ℕ → Type 0) (step : StepMade) : Type 0 where
  pub near : is_beyond step.number ≡ false
  pub whole : WholeIf L K step.site
  pub hears : StepHearsSpelled step

pub under : (a b : ℕ) → a ≤ b → b < 2 ^ 64 - 1 → a < 2 ^ 64 - 1
under a b up less = omega (arith, up, less)

-- a step that is done has the number of a connection
pub near_done : (s v : SiteState) (n : ℕ) (keeps : Bool) (out : List ℕ) → step_line s n keeps ≡ Done v out → is_beyond n ≡ false
unfolding step_line
near_done s v n keeps out done = by (is_beyond n) refl done
  where
    by : (far : Bool) → is_beyond n ≡ far → refused_if far (or_refused s.sessions.store (λ store. step_over s n keeps store)) ≡ Done v out → is_beyond n ≡ false
    by true is done = absurd (cc)
    by false is done = is

less_up : (a b c d : ℕ) → a < b → b ≤ c → c ≤ d → a ≡ d → ⊥
less_up a b c d less up more same = omega (arith, less, up, more, same)

module _ (L : LanesState → Type 0) (K : ℕ → Option ℕ → Type 0) (kept : KeptLaws L K) (draw : DrawLaws) (laws : StandLaws) where
  -- a site has bricks, over which all stand
  abbrev WholeIn : SiteState → Type 0
  WholeIn s = (st : LanesState) × (s.sessions.store ≡ Some st) × IsWhole L K s st

  module _ (s : SiteState) (n : ℕ) (keeps : Bool) (st : LanesState) (has : SiteHasDrawn s) (whole : IsWhole L K s st) (seat : Seat) (there : seat_at s.seats.seats n ≡ Some seat) (hears : SeatHears seat st) where
    abbrev W : SeatWorld
    W = world_of s st

    abbrev G : SeatGivens
    G = givens_of s n keeps

    abbrev O : SeatOutcome
    O = seat_step G seat W

    good : IsGood st seat
    good = whole.all.each n seat there

    sound : HasSoundStore (Some st)
    sound = (good.stands.sound.made, good.stands.sound.lanes)

    -- the nonces that a connection needs were drawn
    drew_at : (j : ℕ) (b : Seat) → seat_at s.seats.seats j ≡ Some b → SeatHasDrawn s.boot.start.boot s.sessions.serial b
    drew_at j b is = subst (IfDrew s.boot.start.boot s.sessions.serial) is (drew_here s.boot.start.boot s.sessions.serial s.seats.seats j has.drew)

    early : (j : ℕ) (b : Seat) (v : Version) → seat_at s.seats.seats j ≡ Some b → write_owed b.connection.stage ≡ Some v → v.serial < s.sessions.serial
    early j b v is owed =
        let was : WasDrawn s.boot.start.boot s.sessions.serial v = subst (λ (o : Option Version). IfSome o (WasDrawn s.boot.start.boot s.sessions.serial)) owed (drew_at j b is).owed in was.1

    -- what is drawn is new
    drawn_new : (v : Version) → IsDrawnIn W O.world.serial v → is_new st.world v ≡ true
    drawn_new v drawn =
        let boot : s.sessions.boot ≡ v.boot = has.boot ∙ sym drawn.boot in
        let node : (nonce s.sessions).node ≡ v.node = sym drawn.node in
        let at : record (nonce s.sessions) { serial = v.serial } ≡ v = λ l. record { node = node l; boot = boot l; serial = v.serial } in
        subst (λ (x : Version). is_new st.world x ≡ true) at (whole.fresh v.serial drawn.from)

    new_of : (v : Version) → (write_owed seat.connection.stage ≡ Some v) ⊎ IsDrawnIn W O.world.serial v → is_new st.world v ≡ true
    new_of v (inl owed) = good.owed v owed
    new_of v (inr drawn) = drawn_new v drawn

    abbrev Holds : Call → Type 0
    Holds held = call_held (way_in O.seat.connection.stage) ≡ Some held

    begun : (held : Call) → seat.twin ≡ None → Holds held → BeginsWith G seat W (nonce_of held)
    begun held none is = laws.begun G seat W held good.stands good.orders none is

    -- a nonce with which no call begins stays new
    still_new : (v : Version) → ((held : Call) → seat.twin ≡ None → Holds held → nonce_of held ≢ v) → is_new st.world v ≡ true → is_new O.world.store.world v ≡ true
    still_new v other new =
        subst (λ (x : LanesState). is_new x.world v ≡ true) (sym (draw.store G seat W)) (laws.leaves st (lent_steps G seat W) v sound (laws.alone G seat W v other) new)

    good_on : IsGood O.world.store O.seat
    good_on = record {
      stands = laws.stands G seat W good.stands hears (λ none held is. new_of (nonce_of held) (begun held none is).from);
      orders = laws.orders G seat W good.orders;
      owed = λ v owed. still_new v (λ held none is same. (begun held none is).over (owed ∙ ap (λ (x : Version). Some x) (sym same))) (new_of v (laws.owed G seat W v owed));
    }

    fresh_on : (serial : ℕ) → O.world.serial ≤ serial → is_new O.world.store.world (record (nonce s.sessions) { serial = serial }) ≡ true
    fresh_on serial up =
        let rises : s.sessions.serial ≤ O.world.serial = draw.serials G seat W in
        still_new (record (nonce s.sessions) { serial = serial }) (λ held none is same. go (nonce_of held) rises (ap (λ (v : Version). v.serial) same) (begun held none is).from) (whole.fresh serial (omega (arith, rises, up)))
      where
        go : (v : Version) → s.sessions.serial ≤ O.world.serial → v.serial ≡ serial → (write_owed seat.connection.stage ≡ Some v) ⊎ IsDrawnIn W O.world.serial v → ⊥
        go v rises same (inl owed) = less_up v.serial s.sessions.serial O.world.serial serial (early n seat v there owed) rises up same
        go v rises same (inr drawn) = less_up v.serial O.world.serial O.world.serial serial drawn.below (omega arith) up same

    -- another connection

    unlike : (j : ℕ) (b : Seat) (v : Version) → j ≢ n → seat_at s.seats.seats j ≡ Some b → write_owed b.connection.stage ≡ Some v → (u : Version) → (write_owed seat.connection.stage ≡ Some u) ⊎ IsDrawnIn W O.world.serial u → u ≢ v
    unlike j b v other is theirs u (inl owed) same = (whole.all.pairs n j seat b (λ e. other (sym e)) there is).owed u owed (theirs ∙ ap (λ (x : Version). Some x) (sym same))
    unlike j b v other is theirs u (inr drawn) same = later (early j b v is theirs) drawn.from (ap (λ (x : Version). x.serial) same)
      where
        later : v.serial < s.sessions.serial → s.sessions.serial ≤ u.serial → u.serial ≡ v.serial → ⊥
        later less up same = omega (arith, less, up, same)

    other_good : (j : ℕ) (b : Seat) → j ≢ n → seat_at s.seats.seats j ≡ Some b → IsGood O.world.store b
    other_good j b other is =
        let its : IsGood st b = whole.all.each j b is in
        let two : AreTwo seat b = whole.all.pairs n j seat b (λ e. other (sym e)) there is in
        record {
          stands = laws.others G seat b W good.stands hears its.stands two.twins;
          orders = its.orders;
          owed = λ v owed. still_new v (λ held none holds. unlike j b v other is owed (nonce_of held) (begun held none holds).from) (its.owed v owed);
        }

    two_on : (j : ℕ) (b : Seat) → j ≢ n → seat_at s.seats.seats j ≡ Some b → AreTwo O.seat b
    two_on j b other is =
        let its : IsGood st b = whole.all.each j b is in
        let two : AreTwo seat b = whole.all.pairs n j seat b (λ e. other (sym e)) there is in
        record {
          twins = laws.apart G seat b W good.stands hears its.stands two.twins;
          owed = λ v ours theirs. unlike j b v other is theirs v (laws.owed G seat W v ours) refl;
        }

    -- what else is kept

    later_on : L O.world.store
    later_on = kept.goes st O.world.store (subst (ByEvents st) (sym (draw.store G seat W)) (laws.events st (lent_steps G seat W))) whole.later

    twin_by : (old new : Option ℕ) → seat.twin ≡ old → O.seat.twin ≡ new → K n new
    twin_by old None was is = kept.none n
    twin_by None (Some number) was is = subst (λ (x : ℕ). K n (Some x)) (sym (laws.last G seat W number good.stands hears was is)) (kept.begins st n whole.later)
    twin_by (Some old) (Some number) was is =
        let mine : K n (Some old) = subst (K n) was (whole.twins n seat there) in
        subst (λ (x : ℕ). K n (Some x)) (sym (laws.same G seat W old number was is)) mine

    moved_whole : WholeIn (with_place s n (record { seat = Some O.seat; world = O.world; manager = manager_after s.seats.manager O.report }))
    moved_whole = (
      O.world.store,
      refl,
      record {
        fresh = fresh_on;
        all = set_stands s.seats.seats n (Some O.seat) st O.world.store whole.all
            (λ a is. subst (IsGood O.world.store) (some_seat O.seat a is) good_on)
            other_good
            (λ a j b is other its. subst (λ (x : Seat). AreTwo x b) (some_seat O.seat a is) (two_on j b other its));
        later = later_on;
        twins = set_twin K s.seats.seats n O.seat whole.twins (twin_by seat.twin O.seat.twin refl refl);
      },
    )

    stays_whole : WholeIn (with_place s n (record { seat = Some seat; world = W; manager = s.seats.manager }))
    stays_whole = (
      st,
      refl,
      record {
        fresh = whole.fresh;
        all = set_same laws s.seats.seats n st seat seat whole.all there refl refl;
        later = whole.later;
        twins = set_twin K s.seats.seats n seat whole.twins (whole.twins n seat there);
      },
    )

    goes_whole : WholeIn (with_place s n (record { seat = None; world = W; manager = s.seats.manager }))
    goes_whole = (
      st,
      refl,
      record {
        fresh = whole.fresh;
        all = set_none s.seats.seats n st whole.all;
        later = whole.later;
        twins = set_no_twin K s.seats.seats n whole.twins;
      },
    )

    at_turn : (t : ShepherdTurn) → Leaves WholeIn (within (with_place s n) (steps_at t G n seat W s.seats.manager))
    at_turn turns.Bytes = stays_whole
    at_turn turns.Request = moved_whole
    at_turn turns.Outside = moved_whole
    at_turn turns.Windows = moved_whole
    at_turn turns.Inside = moved_whole
    at_turn turns.Program = moved_whole
    at_turn turns.Own = moved_whole
    at_turn turns.Output = moved_whole
    at_turn turns.Item = moved_whole
    at_turn (turns.Ended end) = goes_whole

  step_whole : (s : SiteState) (n : ℕ) (keeps : Bool) (st : LanesState) → s.sessions.store ≡ Some st → SiteHasDrawn s → StepHearsSpelled (record { site = s; number = n; keeps = keeps }) → IsWhole L K s st → Leaves WholeIn (step_line s n keeps)
  unfolding step_line place_step
  step_whole s n keeps st is has heard whole =
      leaves-refused_if WholeIn (is_beyond n) (or_refused s.sessions.store (λ store. step_over s n keeps store)) (λ near.
      subst (λ (o : Option LanesState). Leaves WholeIn (or_refused o (λ store. step_over s n keeps store))) (sym is) (by near (seat_at s.seats.seats n) refl))
    where
      by : is_beyond n ≡ false → (o : Option Seat) → seat_at s.seats.seats n ≡ o → Leaves WholeIn (within (with_place s n) (or_refused o (λ seat. steps_at (turn seat.connection) (givens_of s n keeps) n seat (world_of s st) s.seats.manager)))
      by near None here = tt
      by near (Some seat) here = at_turn s n keeps st has whole seat here (heard st seat near is here) (turn seat.connection)

  -- whole steps

  some_one : (o : Option LanesState) (st later : LanesState) → o ≡ Some st → o ≡ Some later → st ≡ later
  some_one o st later is other = let both : Some st ≡ Some later = sym is ∙ other in cc

  abbrev Lends : SiteState → ℕ → Bool → List LentStep
  Lends s n keeps = lends_by s n keeps (seat_at s.seats.seats n) s.sessions.store

  -- where a step leaves bricks, it is over bricks
  whole_on : (s v : SiteState) (n : ℕ) (keeps : Bool) → Goes s (Lends s n keeps) v → ((st : LanesState) → s.sessions.store ≡ Some st → IsWhole L K s st → WholeIn v) → WholeIf L K s → WholeIf L K v
  whole_on s v n keeps goes each whole = λ later at left. by s.sessions.store refl later at left
    where
      none_left : (o : Option LanesState) → o ≡ None → option_map (λ (st : LanesState). after_lent st (Lends s n keeps)) o ≡ None
      none_left o none = ap (λ (x : Option LanesState). option_map (λ (st : LanesState). after_lent st (Lends s n keeps)) x) none

      by : (o : Option LanesState) → s.sessions.store ≡ o → (later : LanesState) → v.sessions.store ≡ Some later → v.sessions.serial < 2 ^ 64 - 1 → IsWhole L K v later
      by None none later at left =
          let gone : v.sessions.store ≡ None = ap (λ (x : SessionsState). x.store) goes.lent.state_is ∙ none_left s.sessions.store none in
          let clash : None ≡ Some later = sym gone ∙ at in absurd (cc)
      by (Some st) is later at left =
          let mid : WholeIn v = each st is (whole st is (under s.sessions.serial v.sessions.serial goes.lent.serials left)) in
          subst (IsWhole L K v) (some_one v.sessions.store mid.0 later mid.1 at) mid.2

  -- a step that is done hears what is spelled
  abbrev pub HearsDone : SiteState → ℕ → Bool → Type 0
  HearsDone s n keeps = (v : SiteState) (out : List ℕ) → step_line s n keeps ≡ Done v out → StepHearsSpelled (record { site = s; number = n; keeps = keeps })

  pub hears_done : (s : SiteState) (n : ℕ) (keeps : Bool) (more : List Bool) → All StepHearsSpelled (step_makes s n (keeps ∷ more)) → HearsDone s n keeps
  hears_done s n keeps more heard v out is =
      All-head StepHearsSpelled (record { site = s; number = n; keeps = keeps }) []
      (subst (λ (a : Answer SiteState). All StepHearsSpelled (elim a [ Refused ↦ [] | Done u text ↦ record { site = s; number = n; keeps = keeps } ∷ [] ])) is heard)

  pub step_goes : (s : SiteState) (n : ℕ) (keeps : Bool) → SiteHasDrawn s → HearsDone s n keeps → WholeIf L K s → Leaves (WholeIf L K) (step_line s n keeps)
  step_goes s n keeps has heard whole = go (step_line s n keeps) refl (goes_step draw s n keeps has) (λ hears st is here. step_whole s n keeps st is has hears here)
    where
      go : (a : Answer SiteState) → step_line s n keeps ≡ a → Leaves (Goes s (Lends s n keeps)) a
          → (StepHearsSpelled (record { site = s; number = n; keeps = keeps }) → (st : LanesState) → s.sessions.store ≡ Some st → IsWhole L K s st → Leaves WholeIn a) → Leaves (WholeIf L K) a
      go Refused is goes each = tt
      go (Done v out) is goes each = whole_on s v n keeps goes (each (heard v out is)) whole

  pub steps_go : (s : SiteState) (n : ℕ) (replies : List Bool) → SiteHasDrawn s → All StepHearsSpelled (run_makes s n replies) → WholeIf L K s → WholeIf L K (after_steps s n replies)
  steps_go s n [] has heard whole = whole
  steps_go s n (keeps ∷ more) has heard whole =
      go (λ v its on here. steps_go v n more its on here) (rests (seat_at s.seats.seats n)) (step_line s n keeps) (goes_step draw s n keeps has) (λ hears. step_goes s n keeps has hears whole) heard
    where
      this : StepMade
      this = record { site = s; number = n; keeps = keeps }

      go : ((v : SiteState) → SiteHasDrawn v → All StepHearsSpelled (run_makes v n more) → WholeIf L K v → WholeIf L K (after_steps v n more))
          → (b : Bool) (a : Answer SiteState) → Leaves (Goes s (Lends s n keeps)) a → (HearsDone s n keeps → Leaves (WholeIf L K) a)
          → All StepHearsSpelled (cond b [] (elim a [ Refused ↦ [] | Done v out ↦ this ∷ run_makes v n more ]))
          → WholeIf L K (cond b s (elim a [ Refused ↦ s | Done v out ↦ after_steps v n more ]))
      go rest true a left its heard = whole
      go rest false Refused left its heard = whole
      go rest false (Done v out) left its heard =
          rest v left.has (All-tail StepHearsSpelled this (run_makes v n more) heard) (its (λ u text is. All-head StepHearsSpelled this (run_makes v n more) heard))

  -- the steps that are made

  known_run : (s : SiteState) (n : ℕ) (replies : List Bool) → SiteHasDrawn s → All StepHearsSpelled (run_makes s n replies) → WholeIf L K s → All (IsStep L K) (run_makes s n replies)
  known_run s n [] has heard whole = All-nil (IsStep L K)
  known_run s n (keeps ∷ more) has heard whole =
      go (λ v its on here. known_run v n more its on here) (rests (seat_at s.seats.seats n)) (step_line s n keeps) refl (goes_step draw s n keeps has) (λ hears. step_goes s n keeps has hears whole) heard
    where
      this : StepMade
      this = record { site = s; number = n; keeps = keeps }

      go : ((v : SiteState) → SiteHasDrawn v → All StepHearsSpelled (run_makes v n more) → WholeIf L K v → All (IsStep L K) (run_makes v n more))
          → (b : Bool) (a : Answer SiteState) → step_line s n keeps ≡ a → Leaves (Goes s (Lends s n keeps)) a → (HearsDone s n keeps → Leaves (WholeIf L K) a)
          → All StepHearsSpelled (cond b [] (elim a [ Refused ↦ [] | Done v out ↦ this ∷ run_makes v n more ]))
          → All (IsStep L K) (cond b [] (elim a [ Refused ↦ [] | Done v out ↦ this ∷ run_makes v n more ]))
      go rest true a is left its heard = All-nil (IsStep L K)
      go rest false Refused is left its heard = All-nil (IsStep L K)
      go rest false (Done v out) is left its heard =
          let first : StepHearsSpelled this = All-head StepHearsSpelled this (run_makes v n more) heard in
          All-cons (IsStep L K) this (run_makes v n more)
          (record { near = near_done s v n keeps out is; whole = whole; hears = first })
          (rest v left.has (All-tail StepHearsSpelled this (run_makes v n more) heard) (its (λ u text other. first)))

  known_step : (s : SiteState) (n : ℕ) (replies : List Bool) → All StepHearsSpelled (step_makes s n replies) → WholeIf L K s → All (IsStep L K) (step_makes s n replies)
  known_step s n [] heard whole = All-nil (IsStep L K)
  known_step s n (keeps ∷ more) heard whole = go (step_line s n keeps) refl heard
    where
      this : StepMade
      this = record { site = s; number = n; keeps = keeps }

      go : (a : Answer SiteState) → step_line s n keeps ≡ a → All StepHearsSpelled (elim a [ Refused ↦ [] | Done v out ↦ this ∷ [] ]) → All (IsStep L K) (elim a [ Refused ↦ [] | Done v out ↦ this ∷ [] ])
      go Refused is heard = All-nil (IsStep L K)
      go (Done v out) is heard =
          All-cons (IsStep L K) this [] (record { near = near_done s v n keeps out is; whole = whole; hears = All-head StepHearsSpelled this [] heard }) (All-nil (IsStep L K))

  pub known_line : (s : SiteState) (line : SeatLine) (replies : List Bool) → SiteHasDrawn s → LineHearsSpelled s line replies → WholeIf L K s → All (IsStep L K) (line_makes s line replies)
  known_line s (lines.Conn n) replies has heard whole = All-nil (IsStep L K)
  known_line s (lines.Bytes n bytes) replies has heard whole = All-nil (IsStep L K)
  known_line s (lines.End n) replies has heard whole = All-nil (IsStep L K)
  known_line s (lines.Step n) replies has heard whole = known_step s n replies heard whole
  known_line s (lines.Run n) replies has heard whole = known_run s n replies has heard whole

  -- lines that leave the bricks as they are

  pub conn_whole : (s : SiteState) (n : ℕ) (st : LanesState) → LanesAreSound st → KeepLimits st.windows → ArePlaced K s.seats.seats st → Leaves (λ (t : SiteState). ArePlaced K t.seats.seats st) (conn_line s n)
  unfolding open_line
  conn_whole s n st sound limits placed =
      leaves-refused_if (λ (t : SiteState). ArePlaced K t.seats.seats st) (is_beyond n) _ (λ near. leaves-refused_if (λ (t : SiteState). ArePlaced K t.seats.seats st) (is_some (seat_at s.seats.seats n)) _ (λ free.
      record {
        all = set_stands (padded s.seats.seats n) n (Some new_seat) st st (padded_stand s.seats.seats n st placed.all)
            (λ a is. subst (IsGood st) (some_seat new_seat a is) begins)
            (λ j b other is. (padded_stand s.seats.seats n st placed.all).each j b is)
            (λ a j b is other its. subst (λ (x : Seat). AreTwo x b) (some_seat new_seat a is) (apart b));
        twins = set_twin K (padded s.seats.seats n) n new_seat (padded_twins K s.seats.seats n placed.twins) (kept.none n);
      }))
    where
      owes_none : (v : Version) → None ≡ Some v → ⊥
      owes_none v is = cc

      begins : IsGood st new_seat
      begins = record { stands = laws.begins st sound limits; orders = tt; owed = λ v owed. absurd (owes_none v owed) }

      no_twin : (number : ℕ) → None ≡ Some number → ⊥
      no_twin number is = cc

      apart : (b : Seat) → AreTwo new_seat b
      apart b = record { twins = λ number ours. absurd (no_twin number ours); owed = λ v ours. absurd (owes_none v ours) }

  -- another of the same stage and twin
  placed_same : (seats : List (Option Seat)) (n : ℕ) (st : LanesState) (seat new : Seat) → ArePlaced K seats st → seat_at seats n ≡ Some seat → new.connection.stage ≡ seat.connection.stage → new.twin ≡ seat.twin → ArePlaced K (slice_set seats n (Some new)) st
  placed_same seats n st seat new placed here stage twin = record {
    all = set_same laws seats n st seat new placed.all here stage twin;
    twins = set_twin K seats n new placed.twins (subst (K n) (sym twin) (placed.twins n seat here));
  }

  pub bytes_whole : (s : SiteState) (n : ℕ) (bytes : List ℕ) (st : LanesState) → ArePlaced K s.seats.seats st → Leaves (λ (t : SiteState). ArePlaced K t.seats.seats st) (bytes_line s n bytes)
  unfolding bytes_line
  bytes_whole s n bytes st placed = go (seat_at s.seats.seats n) refl
    where
      by : (seat : Seat) (over : Bool) → seat_at s.seats.seats n ≡ Some seat → Leaves (λ (t : SiteState). ArePlaced K t.seats.seats st) (within (with_seat s n) (refused_if over (Done (Some (fed seat bytes)) [])))
      by seat true here = tt
      by seat false here = placed_same s.seats.seats n st seat (fed seat bytes) placed here refl refl

      go : (o : Option Seat) → seat_at s.seats.seats n ≡ o → Leaves (λ (t : SiteState). ArePlaced K t.seats.seats st) (within (with_seat s n) (bytes_step bytes o))
      go None here = tt
      go (Some seat) here = by seat seat.connection.ended here

  pub end_whole : (s : SiteState) (n : ℕ) (st : LanesState) → ArePlaced K s.seats.seats st → Leaves (λ (t : SiteState). ArePlaced K t.seats.seats st) (end_line s n)
  unfolding end_line
  end_whole s n st placed = go (seat_at s.seats.seats n) refl
    where
      by : (seat : Seat) (over : Bool) → seat_at s.seats.seats n ≡ Some seat → Leaves (λ (t : SiteState). ArePlaced K t.seats.seats st) (within (with_seat s n) (refused_if over (Done (Some (ended seat)) [])))
      by seat true here = tt
      by seat false here = placed_same s.seats.seats n st seat (ended seat) placed here refl refl

      go : (o : Option Seat) → seat_at s.seats.seats n ≡ o → Leaves (λ (t : SiteState). ArePlaced K t.seats.seats st) (within (with_seat s n) (end_step o))
      go None here = tt
      go (Some seat) here = by seat seat.connection.ended here
