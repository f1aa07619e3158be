-- What lines about connections leave of the rows that a keeper holds, which tells.
use Rattle.std.proofs.Common.{◌≡◌, ◌⊎◌, inl, inr, ℕ, Bool, true, false, cond, List, [], ◌∷◌, ◌++◌, Option, Some, None, is_some, refl, sym, ap, ◌∙◌, subst}
use Rattle.std.specs.Prelude.{◌&&◌, not, if◌then◌else◌}
use Rattle.boot_core.specs.Boot.{BootValue}
use Rattle.crash_base.specs.Rows.{put_all}
use Rattle.crash_base.specs.declared.rows.RowWrite.{RowWrite}
use Rattle.journal_model.specs.Rows.{rows_after}
use Rattle.journal_model.proofs.Adding.{rows_after-push}
use Rattle.outside.specs.Keeper.{KeeperTold}
use Rattle.scenario_text.specs.Answer.{Answer, Refused, Done, or_refused, refused_if, within}
use Rattle.scenario_text.specs.declared.seat_line.SeatLine.{SeatLine}
use Rattle.scenario_text.specs.declared.seat_line.SeatLine.TheVariants as lines
use Rattle.scenario_text.proofs.Leaving.{Leaves, leaves-refused_if}
use Rattle.seat_lines.specs.Handing.{Handed, handed_first, line_hands, run_hands, writes_by}
use Rattle.seat_lines.specs.Lines.{bytes_line, bytes_step, conn_line, end_line, end_step, givens_of, is_beyond, open_line, place_step, step_line, step_over, steps_at, with_place, world_of}
use Rattle.seat_lines.specs.Making.{StepMade, run_makes}
use Rattle.seat_lines.specs.Runs.{can_run, rests, run_from, run_line, seat_line}
use Rattle.seat_lines.specs.Site.{SiteState, seat_at, with_seat}
use Rattle.seat_steps.specs.Seats.{SeatGivens, SeatWorld}
use Rattle.seat_steps.specs.declared.seat.Seat.{Seat}
use Rattle.session_lanes.specs.Lanes.{LanesState}
use Rattle.shepherd.specs.Shepherds.{turn}
use Rattle.shepherd.specs.declared.shepherd.ShepherdTurn.{ShepherdTurn}
use Rattle.shepherd.specs.declared.shepherd.ShepherdTurn.TheVariants as turns
use Rattle.scenario_engine.specs.KeeperCalls.{KeeperCall, TellsCalls}
use Rattle.scenario_engine.specs.Running.{keep_calls}
use Rattle.scenario_engine.specs.Seats.{in_boot, after_steps, by_replies, seat_over, handed_calls, seat_calls}
use Rattle.scenario_engine.specs.State.{RunningState, State, Heading, Running, Outcome, RefusedIn, site_of, with_site}
use Rattle.scenario_engine.proofs.Keeping.{LeavesTo}
use Rattle.scenario_engine.proofs.SeatChanges.{Changes, HasStep, changed_step}
use Rattle.scenario_engine.proofs.TellingCalls.{Halves, halves, rows_told, rows_failed}
use Rattle.recovery_manager.specs.Kept.{ManagerValue}

-- the same start, and the rows that the keeper holds then
pub record HasRows (old : BootValue) (u : KeeperTold) (new : BootValue) : Type 0 where
  pub start : new.start ≡ old.start
  pub rows : u.rows ≡ rows_after new.start.base new.entries

rows_kept : (old : BootValue) (t u : KeeperTold) → t.rows ≡ rows_after old.start.base old.entries → TellsCalls [] (Some t) (Some u) → HasRows old u old
rows_kept old t u holds told = record { start = refl; rows = ap rows_told told ∙ holds }

stays_there : (writes : List RowWrite) (keeps : Bool) (t u : KeeperTold) → (writes ≡ []) ⊎ (keeps ≡ false) → TellsCalls (keep_calls None writes keeps) (Some t) (Some u) → u.rows ≡ t.rows
stays_there [] keeps t u why told = ap rows_told told
stays_there (w ∷ ws) false t u why told = rows_failed t u told
stays_there (w ∷ ws) true t u (inl none) told = absurd (cc)
stays_there (w ∷ ws) true t u (inr none) told = absurd (cc)

put_there : (writes : List RowWrite) (keeps : Bool) (t u : KeeperTold) → (writes ≡ []) ⊎ (keeps ≡ true) → TellsCalls (keep_calls None writes keeps) (Some t) (Some u) → u.rows ≡ put_all writes t.rows
put_there [] keeps t u why told = ap rows_told told
put_there (w ∷ ws) true t u why told = ap rows_told told.2 ∙ ap rows_told told.1
put_there (w ∷ ws) false t u (inl none) told = absurd (cc)
put_there (w ∷ ws) false t u (inr none) told = absurd (cc)

rows_changed : (old new : BootValue) (writes : List RowWrite) (keeps : Bool) (t u : KeeperTold) → Changes old writes keeps new → t.rows ≡ rows_after old.start.base old.entries → TellsCalls (keep_calls None writes keeps) (Some t) (Some u) → HasRows old u new
rows_changed old new writes keeps t u (inl (same, why)) holds told =
    subst (λ (b : BootValue). HasRows old u b) (sym same) (record { start = refl; rows = stays_there writes keeps t u why told ∙ holds })
rows_changed old new writes keeps t u (inr (e, is, has, why)) holds told =
    let base = old.start.base in
    let es = old.entries in
    subst (λ (b : BootValue). HasRows old u b) (sym is) (record {
      start = refl;
      rows = put_there writes keeps t u why told ∙ ap (put_all writes) holds ∙ ap (λ ws. put_all ws (rows_after base es)) (sym has) ∙ sym (rows_after-push base es e);
    })

pub first_calls : (writes : List RowWrite) (keeps : Bool) (rest : List Handed) → handed_calls (handed_first writes keeps rest) ≡ keep_calls None writes keeps ++ handed_calls rest
first_calls [] keeps rest = refl
first_calls (w ∷ ws) keeps rest = refl

rows_first : (s v : SiteState) (n : ℕ) (keeps : Bool) (rest : List Handed) (t u : KeeperTold) → HasStep s n keeps v → t.rows ≡ rows_after s.boot.start.base s.boot.entries → TellsCalls (handed_calls (handed_first (writes_by (seat_at s.seats.seats n) s.boot) keeps rest)) (Some t) (Some u) → (half : KeeperTold) × HasRows s.boot half v.boot × TellsCalls (handed_calls rest) (Some half) (Some u)
rows_first s v n keeps rest t u h holds told =
    let ws = writes_by (seat_at s.seats.seats n) s.boot in
    let P : List KeeperCall → Type 0 = λ cs. TellsCalls cs (Some t) (Some u) in
    let two : Halves (keep_calls None ws keeps) (handed_calls rest) t u = halves (keep_calls None ws keeps) (handed_calls rest) t u (subst P (first_calls ws keeps rest) told) in
    (two.half, rows_changed s.boot v.boot ws keeps t two.half h.changes holds two.before, two.after)

-- whole steps

rows_steps : (s : SiteState) (n : ℕ) (replies : List Bool) (t u : KeeperTold) → t.rows ≡ rows_after s.boot.start.base s.boot.entries → TellsCalls (handed_calls (run_hands s n replies)) (Some t) (Some u) → HasRows s.boot u (after_steps s n replies).boot
rows_steps s n [] t u holds told = rows_kept s.boot t u holds told
rows_steps s n (keeps ∷ more) t u holds told = go (λ v half. rows_steps v n more half u) (rests (seat_at s.seats.seats n)) (step_line s n keeps) (changed_step s n keeps) told
  where
    Later : Type 0
    Later = (v : SiteState) (half : KeeperTold) → half.rows ≡ rows_after v.boot.start.base v.boot.entries → TellsCalls (handed_calls (run_hands v n more)) (Some half) (Some u) → HasRows v.boot u (after_steps v n more).boot

    go : Later → (b : Bool) (a : Answer SiteState) → Leaves (HasStep s n keeps) a
        → TellsCalls (handed_calls (cond b [] (elim a [ Refused ↦ [] | Done v out ↦ handed_first (writes_by (seat_at s.seats.seats n) s.boot) keeps (run_hands v n more) ]))) (Some t) (Some u)
        → HasRows s.boot u (cond b s (elim a [ Refused ↦ s | Done v out ↦ after_steps v n more ])).boot
    go later true a h told = rows_kept s.boot t u holds told
    go later false Refused h told = rows_kept s.boot t u holds told
    go later false (Done v out) h told =
        let first = rows_first s v n keeps (run_hands v n more) t u h holds told in
        let rest : HasRows v.boot u (after_steps v n more).boot = later v first.0 first.1.rows first.2 in
        record { start = rest.start ∙ first.1.start; rows = rest.rows }

-- a run comes to the site after its steps, or is under way

abbrev pub is_done : {A : Type 0} → Answer A → Bool
is_done Refused = false
is_done (Done a text) = true

pub done_at : (s : SiteState) (n : ℕ) (g : SeatGivens) (seat : Seat) (w : SeatWorld) (m : ManagerValue) (t : ShepherdTurn) → is_done (within (with_place s n) (steps_at t g n seat w m)) ≡ true
done_at s n g seat w m turns.Bytes = refl
done_at s n g seat w m turns.Request = refl
done_at s n g seat w m turns.Outside = refl
done_at s n g seat w m turns.Windows = refl
done_at s n g seat w m turns.Inside = refl
done_at s n g seat w m turns.Program = refl
done_at s n g seat w m turns.Own = refl
done_at s n g seat w m turns.Output = refl
done_at s n g seat w m turns.Item = refl
done_at s n g seat w m (turns.Ended end) = refl

pub step_done : (s : SiteState) (n : ℕ) (keeps : Bool) → is_beyond n ≡ false → is_some s.sessions.store ≡ true → is_some (seat_at s.seats.seats n) ≡ true → is_done (step_line s n keeps) ≡ true
unfolding step_line place_step
step_done s n keeps near bricks there = ap (λ (b : Bool). is_done (refused_if b (or_refused s.sessions.store (λ store. step_over s n keeps store)))) near ∙ by s.sessions.store bricks
  where
    at : (o : Option Seat) (st : LanesState) → is_some o ≡ true → is_done (within (with_place s n) (or_refused o (λ seat. steps_at (turn seat.connection) (givens_of s n keeps) n seat (world_of s st) s.seats.manager))) ≡ true
    at None st is = absurd (cc)
    at (Some seat) st is = done_at s n (givens_of s n keeps) seat (world_of s st) s.seats.manager (turn seat.connection)

    by : (o : Option LanesState) → is_some o ≡ true → is_done (or_refused o (λ store. step_over s n keeps store)) ≡ true
    by None is = absurd (cc)
    by (Some st) is = at (seat_at s.seats.seats n) st there

-- whether a step is refused is not by the keeper's reply
pub done_alike : (s : SiteState) (n : ℕ) (keeps other : Bool) → is_done (step_line s n keeps) ≡ is_done (step_line s n other)
unfolding step_line place_step
done_alike s n keeps other = far (is_beyond n)
  where
    at : (o : Option Seat) (st : LanesState) → is_done (within (with_place s n) (or_refused o (λ seat. steps_at (turn seat.connection) (givens_of s n keeps) n seat (world_of s st) s.seats.manager))) ≡ is_done (within (with_place s n) (or_refused o (λ seat. steps_at (turn seat.connection) (givens_of s n other) n seat (world_of s st) s.seats.manager)))
    at None st = refl
    at (Some seat) st = done_at s n (givens_of s n keeps) seat (world_of s st) s.seats.manager (turn seat.connection) ∙ sym (done_at s n (givens_of s n other) seat (world_of s st) s.seats.manager (turn seat.connection))

    by : (o : Option LanesState) → is_done (or_refused o (λ store. step_over s n keeps store)) ≡ is_done (or_refused o (λ store. step_over s n other store))
    by None = refl
    by (Some st) = at (seat_at s.seats.seats n) st

    far : (b : Bool) → is_done (refused_if b (or_refused s.sessions.store (λ store. step_over s n keeps store))) ≡ is_done (refused_if b (or_refused s.sessions.store (λ store. step_over s n other store)))
    far true = refl
    far false = by s.sessions.store

pub there_where : (o : Option Seat) → rests o ≡ false → is_some o ≡ true
there_where None goes = absurd (cc)
there_where (Some seat) goes = refl

-- a run that has come to this is at the site after its steps
abbrev pub RunsTo : SiteState → Option (Answer SiteState) → Type 0
RunsTo v None = Unit {0}
RunsTo v (Some Refused) = ⊥
RunsTo v (Some (Done w out)) = w ≡ v

pub run_to : (s : SiteState) (text : List ℕ) (n : ℕ) (replies : List Bool) → is_beyond n ≡ false → is_some s.sessions.store ≡ true → RunsTo (after_steps s n replies) (run_from s text n replies)
run_to s text n [] near bricks = go (rests (seat_at s.seats.seats n))
  where
    go : (b : Bool) → RunsTo s (cond b (Some (Done s text)) None)
    go true = refl
    go false = tt
run_to s text n (keeps ∷ more) near bricks = go (λ v out. run_to v (text ++ out) n more near) (rests (seat_at s.seats.seats n)) refl (step_line s n keeps) refl (changed_step s n keeps)
  where
    go : ((v : SiteState) (out : List ℕ) → is_some v.sessions.store ≡ true → RunsTo (after_steps v n more) (run_from v (text ++ out) n more)) → (b : Bool) → rests (seat_at s.seats.seats n) ≡ b → (a : Answer SiteState) → step_line s n keeps ≡ a → Leaves (HasStep s n keeps) a
        → RunsTo (cond b s (elim a [ Refused ↦ s | Done v out ↦ after_steps v n more ])) (cond b (Some (Done s text)) (elim a [ Refused ↦ Some Refused | Done v out ↦ run_from v (text ++ out) n more ]))
    go later true here a is h = refl
    go later false here Refused is h =
        let done : is_done (step_line s n keeps) ≡ true = step_done s n keeps near bricks (there_where (seat_at s.seats.seats n) here) in
        let none : is_done (step_line s n keeps) ≡ false = ap is_done is in absurd (cc)
    go later false here (Done v out) is h = later v out h.bricks

pub line_of_run : (s : SiteState) (n : ℕ) (replies : List Bool) → cond (can_run s n) (run_from s [] n replies) (Some Refused) ≡ run_line s n replies
unfolding run_line
line_of_run s n replies = refl

pub near_of : (far a b : Bool) → (not far && (a && b)) ≡ true → far ≡ false
near_of true a b can = absurd (cc)
near_of false a b can = refl

pub bricks_of : (far a b : Bool) → (not far && (a && b)) ≡ true → a ≡ true
bricks_of true a b can = absurd (cc)
bricks_of false true b can = refl
bricks_of false false b can = absurd (cc)

-- without bricks a step is refused
refused_without : (s : SiteState) (n : ℕ) (keeps : Bool) → can_run s n ≡ false → (b : Bool) (o : Option LanesState) → is_beyond n ≡ b → s.sessions.store ≡ o → is_some (seat_at s.seats.seats n) ≡ true → is_done (step_line s n keeps) ≡ false
unfolding step_line
refused_without s n keeps none true o far is there = ap (λ (b : Bool). is_done (refused_if b (or_refused s.sessions.store (λ store. step_over s n keeps store)))) far
refused_without s n keeps none false None near is there =
    ap (λ (b : Bool). is_done (refused_if b (or_refused s.sessions.store (λ store. step_over s n keeps store)))) near
    ∙ ap (λ (o : Option LanesState). is_done (or_refused o (λ store. step_over s n keeps store))) is
refused_without s n keeps none false (Some st) near is there = let both : can_run s n ≡ true = rw (near, is, there) refl in absurd (cc)

-- what a run hands by the answer of a step
abbrev pub hands_on : SiteState → ℕ → Bool → List Bool → Bool → Answer SiteState → List Handed
hands_on s n keeps more b a = if b then [] else (elim a [ Refused ↦ [] | Done v out ↦ handed_first (writes_by (seat_at s.seats.seats n) s.boot) keeps (run_hands v n more) ])

-- a run that cannot begin hands nothing to the keeper
pub no_hands : (s : SiteState) (n : ℕ) (replies : List Bool) → can_run s n ≡ false → run_hands s n replies ≡ []
no_hands s n [] none = refl
no_hands s n (keeps ∷ more) none = go (rests (seat_at s.seats.seats n)) refl (step_line s n keeps) (refused_without s n keeps none (is_beyond n) s.sessions.store refl refl)
  where
    go : (b : Bool) → rests (seat_at s.seats.seats n) ≡ b → (a : Answer SiteState) → (is_some (seat_at s.seats.seats n) ≡ true → is_done a ≡ false)
        → hands_on s n keeps more b a ≡ []
    go true here a refused = refl
    go false here Refused refused = refl
    go false here (Done v out) refused = let not : true ≡ false = refused (there_where (seat_at s.seats.seats n) here) in absurd (cc)

-- what steps a run makes by the answer of a step
abbrev makes_after : SiteState → ℕ → Bool → List Bool → Bool → Answer SiteState → List StepMade
makes_after s n keeps more b a = if b then [] else (elim a [ Refused ↦ [] | Done v out ↦ record { site = s; number = n; keeps = keeps } ∷ run_makes v n more ])

-- and it makes no step
pub no_makes : (s : SiteState) (n : ℕ) (replies : List Bool) → can_run s n ≡ false → run_makes s n replies ≡ []
no_makes s n [] none = refl
no_makes s n (keeps ∷ more) none = go (rests (seat_at s.seats.seats n)) refl (step_line s n keeps) (refused_without s n keeps none (is_beyond n) s.sessions.store refl refl)
  where
    go : (b : Bool) → rests (seat_at s.seats.seats n) ≡ b → (a : Answer SiteState) → (is_some (seat_at s.seats.seats n) ≡ true → is_done a ≡ false)
        → makes_after s n keeps more b a ≡ []
    go true here a refused = refl
    go false here Refused refused = refl
    go false here (Done v out) refused = let not : true ≡ false = refused (there_where (seat_at s.seats.seats n) here) in absurd (cc)

-- where a line about connections leaves a boot, it is of the same start, and the keeper holds its rows
abbrev pub HoldsIn : BootValue → KeeperTold → State → Type 0
HoldsIn old u (Heading head) = ⊥
HoldsIn old u (Running q) = HasRows old u q.boot

-- the boot of a site is as it was
abbrev SameBoot : SiteState → SiteState → Type 0
SameBoot s v = v.boot ≡ s.boot

conn_same : (s : SiteState) (n : ℕ) → Leaves (SameBoot s) (conn_line s n)
unfolding open_line
conn_same s n =
    leaves-refused_if (SameBoot s) (is_beyond n) _ (λ near. leaves-refused_if (SameBoot s) (is_some (seat_at s.seats.seats n)) _ (λ free. refl))

seat_same : (s : SiteState) (n : ℕ) (a : Answer (Option Seat)) → Leaves (SameBoot s) (within (with_seat s n) a)
seat_same s n Refused = tt
seat_same s n (Done seat text) = refl

bytes_same : (s : SiteState) (n : ℕ) (bytes : List ℕ) → Leaves (SameBoot s) (bytes_line s n bytes)
unfolding bytes_line
bytes_same s n bytes = seat_same s n (bytes_step bytes (seat_at s.seats.seats n))

end_same : (s : SiteState) (n : ℕ) → Leaves (SameBoot s) (end_line s n)
unfolding end_line
end_same s n = seat_same s n (end_step (seat_at s.seats.seats n))

left_same : (r : RunningState) (a : Answer SiteState) (t u : KeeperTold) → t.rows ≡ rows_after r.boot.start.base r.boot.entries → TellsCalls [] (Some t) (Some u) → Leaves (SameBoot (site_of r)) a → LeavesTo (HoldsIn r.boot u) (in_boot r (within (with_site r) a))
left_same r Refused t u holds told same = rows_kept r.boot t u holds told
left_same r (Done v text) t u holds told same = subst (λ (b : BootValue). HasRows r.boot u b) (sym same) (rows_kept r.boot t u holds told)

left_step : (r : RunningState) (n : ℕ) (keeps : Bool) (a : Answer SiteState) (t u : KeeperTold) → t.rows ≡ rows_after r.boot.start.base r.boot.entries → Leaves (HasStep (site_of r) n keeps) a
    → TellsCalls (handed_calls (elim a [ Refused ↦ [] | Done v out ↦ handed_first (writes_by (seat_at r.seats.seats n) r.boot) keeps [] ])) (Some t) (Some u)
    → LeavesTo (HoldsIn r.boot u) (in_boot r (within (with_site r) a))
left_step r n keeps Refused t u holds h told = rows_kept r.boot t u holds told
left_step r n keeps (Done v out) t u holds h told =
    let first = rows_first (site_of r) v n keeps [] t u h holds told in
    let P : KeeperTold → Type 0 = λ w. HasRows r.boot w v.boot in
    record { start = first.1.start; rows = ap rows_told first.2 ∙ first.1.rows }

left_run : (r : RunningState) (n : ℕ) (replies : List Bool) (o : Option (Answer SiteState)) (u : KeeperTold) → RunsTo (after_steps (site_of r) n replies) o → HasRows r.boot u (after_steps (site_of r) n replies).boot → LeavesTo (HoldsIn r.boot u) (by_replies r (lines.Run n) replies o)
left_run r n replies None u to rows = rows
left_run r n replies (Some Refused) u to rows = absurd to
left_run r n replies (Some (Done v out)) u to rows = subst (λ (w : SiteState). HasRows r.boot u w.boot) (sym to) rows

left_line : (r : RunningState) (line : SeatLine) (replies : List Bool) (t u : KeeperTold) → t.rows ≡ rows_after r.boot.start.base r.boot.entries → TellsCalls (handed_calls (line_hands (site_of r) line replies)) (Some t) (Some u) → LeavesTo (HoldsIn r.boot u) (by_replies r line replies (seat_line (site_of r) line replies))
left_line r (lines.Conn n) replies t u holds told = left_same r (conn_line (site_of r) n) t u holds told (conn_same (site_of r) n)
left_line r (lines.Bytes n bytes) replies t u holds told = left_same r (bytes_line (site_of r) n bytes) t u holds told (bytes_same (site_of r) n bytes)
left_line r (lines.End n) replies t u holds told = left_same r (end_line (site_of r) n) t u holds told (end_same (site_of r) n)
left_line r (lines.Step n) [] t u holds told = rows_kept r.boot t u holds told
left_line r (lines.Step n) (keeps ∷ more) t u holds told = left_step r n keeps (step_line (site_of r) n keeps) t u holds (changed_step (site_of r) n keeps) told
left_line r (lines.Run n) replies t u holds told = go (can_run (site_of r) n) refl
  where
    by : Bool → Outcome
    by b = by_replies r (lines.Run n) replies (cond b (run_from (site_of r) [] n replies) (Some Refused))

    as_run : by (can_run (site_of r) n) ≡ by_replies r (lines.Run n) replies (run_line (site_of r) n replies)
    as_run = ap (by_replies r (lines.Run n) replies) (line_of_run (site_of r) n replies)

    run : (b : Bool) → can_run (site_of r) n ≡ b → LeavesTo (HoldsIn r.boot u) (by b)
    run true can =
        left_run r n replies (run_from (site_of r) [] n replies) u (run_to (site_of r) [] n replies (near_of (is_beyond n) (is_some r.sessions.store) (is_some (seat_at r.seats.seats n)) can) (bricks_of (is_beyond n) (is_some r.sessions.store) (is_some (seat_at r.seats.seats n)) can))
        (rows_steps (site_of r) n replies t u holds told)
    run false none =
        let P : List Handed → Type 0 = λ hs. TellsCalls (handed_calls hs) (Some t) (Some u) in
        rows_kept r.boot t u holds (subst P (no_hands (site_of r) n replies none) told)

    go : (b : Bool) → can_run (site_of r) n ≡ b → LeavesTo (HoldsIn r.boot u) (by_replies r (lines.Run n) replies (run_line (site_of r) n replies))
    go b is = subst (LeavesTo (HoldsIn r.boot u)) (ap by (sym is) ∙ as_run) (run b is)

pub left_seat : (r : RunningState) (line : SeatLine) (replies : List Bool) (t u : KeeperTold) → t.rows ≡ rows_after r.boot.start.base r.boot.entries → TellsCalls (seat_calls r line replies) (Some t) (Some u) → LeavesTo (HoldsIn r.boot u) (seat_over r line replies)
unfolding seat_over seat_calls
left_seat r line replies t u holds told = go r.site told
  where
    go : (site : Bool) → TellsCalls (cond site (handed_calls (line_hands (site_of r) line replies)) []) (Some t) (Some u) → LeavesTo (HoldsIn r.boot u) (cond site (by_replies r line replies (seat_line (site_of r) line replies)) (RefusedIn (Running r)))
    go true told = left_line r line replies t u holds told
    go false told = rows_kept r.boot t u holds told

-- what each step keeps of the boot, a line about connections keeps

abbrev pub BootIn : (BootValue → Type 0) → State → Type 0
BootIn B (Heading head) = ⊥
BootIn B (Running q) = B q.boot

module _ (B : BootValue → Type 0) (each : (old new : BootValue) (writes : List RowWrite) (keeps : Bool) → Changes old writes keeps new → B old → B new) where
  kept_steps : (s : SiteState) (n : ℕ) (replies : List Bool) → B s.boot → B (after_steps s n replies).boot
  kept_steps s n [] b = b
  kept_steps s n (keeps ∷ more) b = go (λ v. kept_steps v n more) (rests (seat_at s.seats.seats n)) (step_line s n keeps) (changed_step s n keeps)
    where
      go : ((v : SiteState) → B v.boot → B (after_steps v n more).boot) → (rest : Bool) (a : Answer SiteState) → Leaves (HasStep s n keeps) a → B (cond rest s (elim a [ Refused ↦ s | Done v out ↦ after_steps v n more ])).boot
      go later true a h = b
      go later false Refused h = b
      go later false (Done v out) h = later v (each s.boot v.boot (writes_by (seat_at s.seats.seats n) s.boot) keeps h.changes b)

  kept_same : (r : RunningState) (a : Answer SiteState) → B r.boot → Leaves (SameBoot (site_of r)) a → LeavesTo (BootIn B) (in_boot r (within (with_site r) a))
  kept_same r Refused b same = b
  kept_same r (Done v text) b same = subst B (sym same) b

  kept_step : (r : RunningState) (n : ℕ) (keeps : Bool) (a : Answer SiteState) → B r.boot → Leaves (HasStep (site_of r) n keeps) a → LeavesTo (BootIn B) (in_boot r (within (with_site r) a))
  kept_step r n keeps Refused b h = b
  kept_step r n keeps (Done v out) b h = each r.boot v.boot (writes_by (seat_at r.seats.seats n) r.boot) keeps h.changes b

  kept_run : (r : RunningState) (n : ℕ) (replies : List Bool) → B r.boot → LeavesTo (BootIn B) (by_replies r (lines.Run n) replies (run_line (site_of r) n replies))
  kept_run r n replies b = go (can_run (site_of r) n) refl
    where
      by : Bool → Outcome
      by can = by_replies r (lines.Run n) replies (cond can (run_from (site_of r) [] n replies) (Some Refused))

      as_run : by (can_run (site_of r) n) ≡ by_replies r (lines.Run n) replies (run_line (site_of r) n replies)
      as_run = ap (by_replies r (lines.Run n) replies) (line_of_run (site_of r) n replies)

      after : B (after_steps (site_of r) n replies).boot
      after = kept_steps (site_of r) n replies b

      came : (o : Option (Answer SiteState)) → RunsTo (after_steps (site_of r) n replies) o → LeavesTo (BootIn B) (by_replies r (lines.Run n) replies o)
      came None to = after
      came (Some Refused) to = absurd to
      came (Some (Done v out)) to = subst (λ (w : SiteState). B w.boot) (sym to) after

      run : (can : Bool) → can_run (site_of r) n ≡ can → LeavesTo (BootIn B) (by can)
      run true can = came (run_from (site_of r) [] n replies) (run_to (site_of r) [] n replies (near_of (is_beyond n) (is_some r.sessions.store) (is_some (seat_at r.seats.seats n)) can) (bricks_of (is_beyond n) (is_some r.sessions.store) (is_some (seat_at r.seats.seats n)) can))
      run false none = b

      go : (can : Bool) → can_run (site_of r) n ≡ can → LeavesTo (BootIn B) (by_replies r (lines.Run n) replies (run_line (site_of r) n replies))
      go can is = subst (LeavesTo (BootIn B)) (ap by (sym is) ∙ as_run) (run can is)

  kept_line : (r : RunningState) (line : SeatLine) (replies : List Bool) → B r.boot → LeavesTo (BootIn B) (by_replies r line replies (seat_line (site_of r) line replies))
  kept_line r (lines.Conn n) replies b = kept_same r (conn_line (site_of r) n) b (conn_same (site_of r) n)
  kept_line r (lines.Bytes n bytes) replies b = kept_same r (bytes_line (site_of r) n bytes) b (bytes_same (site_of r) n bytes)
  kept_line r (lines.End n) replies b = kept_same r (end_line (site_of r) n) b (end_same (site_of r) n)
  kept_line r (lines.Step n) [] b = b
  kept_line r (lines.Step n) (keeps ∷ more) b = kept_step r n keeps (step_line (site_of r) n keeps) b (changed_step (site_of r) n keeps)
  kept_line r (lines.Run n) replies b = kept_run r n replies b

  pub kept_seat : (r : RunningState) (line : SeatLine) (replies : List Bool) → B r.boot → LeavesTo (BootIn B) (seat_over r line replies)
  unfolding seat_over
  kept_seat r line replies b = go r.site
    where
      go : (site : Bool) → LeavesTo (BootIn B) (cond site (by_replies r line replies (seat_line (site_of r) line replies)) (RefusedIn (Running r)))
      go true = kept_line r line replies b
      go false = b

-- a step keeps the start of the boot
pub start_changed : (first old new : BootValue) (writes : List RowWrite) (keeps : Bool) → Changes old writes keeps new → old.start ≡ first.start → new.start ≡ first.start
start_changed first old new writes keeps (inl (same, why)) is = ap (λ (b : BootValue). b.start) same ∙ is
start_changed first old new writes keeps (inr (e, same, has, why)) is = ap (λ (b : BootValue). b.start) same ∙ is
