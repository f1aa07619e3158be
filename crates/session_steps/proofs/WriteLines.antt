-- A write line with a new nonce is done.
use Rattle.std.proofs.Common.{◌≡◌, All, ℕ, ◌≤◌, ◌&&◌, ◌||◌, Bool, true, false, not, if◌then◌else◌, nat_lt, List, [], ◌∷◌, length, map, take, Option, Some, None, Result, Ok, Err, refl, sym, ap, ◌∙◌, subst, arith}
use Rattle.std.specs.Prelude.{nat_le, is_some}
use Rattle.std.specs.List.{filter_map, list_any}
use Rattle.std.proofs.lemmas.Bool.Decides.{nat_tests}
use Rattle.std.proofs.lemmas.List.{length-map}
use Rattle.std.proofs.lemmas.List.Elements.{All-head, All-tail}
use Rattle.crash_base.specs.declared.numbers.BrickNo.{BrickNo}
use Rattle.scenario_text.specs.Answer.{Answer, Refused, Done, refused_if, or_refused}
use Rattle.scenario_text.specs.declared.session_line.SessionLine.TheVariants as lines
use Rattle.session_cookie.specs.declared.cookie.Cookie.{Cookie}
use Rattle.session_cookie.specs.declared.cookie.TheConstants.{MAX_HOLDERS}
use Rattle.send_windows.specs.Facts.{open_count, full_facts}
use Rattle.send_windows.specs.Passes.{HaveDistinctBricks}
use Rattle.send_windows.specs.Windows.{WindowsValue, KeepLimits, new_windows, chosen, AreTaken, taken, refused}
use Rattle.send_windows.specs.declared.fact.TheConstants.{MAX_BRICKS}
use Rattle.send_windows.specs.declared.pass.Pass.{Pass}
use Rattle.ssm_stub.specs.declared.ask.Turn.{Turn}
use Rattle.ssm_stub.specs.declared.write_call.WriteRefusal.{WriteRefusal}
use Rattle.ssm_stub.specs.declared.write_call.WriteRefusal.TheVariants as missing
use Rattle.ssm_stub.specs.Turns.{turn_after_asks}
use Rattle.ssm_stub.specs.Writes.{WriteState, write_start, write_answer, holder_of, cause_of, missed_unless}
use Rattle.ssm_world.specs.Worlds.{is_new, same_brick, are_distinct, may_write}
use Rattle.ssm_world.proofs.Tests.{both, number_other}
use Rattle.session_steps.specs.Promise.{SessionTurn, Lead}
use Rattle.session_steps.specs.Sessions.{SessionsState, with_store, nonce, drawn, session_key, expiry, write_of, spent_by, written_as, told_write, answered_write, write_line, session_line}
use Rattle.scenario_text.specs.Setup.{HasCounts, SetupState, no_setup, are_counts, bricks_step, key_step}
use Rattle.session_steps.specs.Setup.{store_of, set_up}
use Rattle.session_lanes.specs.Lanes.{LanesState}
use Rattle.session_steps.specs.Texts.{overload_text}
use Rattle.scenario_text.specs.declared.setup.BrickCounts.{BrickCounts}
use Rattle.scenario_text.specs.declared.setup.TheConstants.{LEAST_KEY_BYTES, MOST_KEY_BYTES}
use Rattle.session_steps.proofs.Calls.{bricks_of_write, write_ended}
use Rattle.session_steps.proofs.LanesKept.{set_up_sound, all_sound}
use Rattle.session_lanes.specs.Sound.{LanesAreSound}
use Rattle.session_lanes.proofs.Ending.{WriteGone}
use Rattle.session_steps.proofs.Lines.{not_false, not_refused, done_state, passes_of, store_after_write}
use Rattle.session_steps.proofs.LentGone.{LimitsLaw}
use Rattle.session_steps.proofs.TurnsMade.{KeepWindows, windows_of, TurnsGo, turns_go}

-- new windows keep the limits, and passes that are taken together are lawful
abbrev pub NewLaw : Type 0
NewLaw = (bricks w wq : ℕ) (holds : Bool) → 1 ≤ wq → wq ≤ w → w ≤ bricks → bricks ≤ MAX_BRICKS → KeepLimits (new_windows bricks w wq holds)

abbrev pub TakenLaw : Type 0
TakenLaw = (windows : WindowsValue) (first : ℕ) → KeepLimits windows → windows.wq ≤ open_count windows.facts → AreTaken windows.wq windows.w (chosen windows first)

at_least : (a b : ℕ) → nat_le a b ≡ true → a ≤ b
at_least a b is = grind (arith, nat_tests)

is_at_least : (a b : ℕ) → a ≤ b → nat_le a b ≡ true
is_at_least a b less = grind (arith, nat_tests)

not_less : (a b : ℕ) → nat_lt a b ≡ false → b ≤ a
not_less a b is = grind (arith, nat_tests)

-- the windows of a setup keep the limits
counts_keep : NewLaw → (counts : Option BrickCounts) → HasCounts counts → KeepWindows (store_of counts)
counts_keep new None allowed = tt
counts_keep new (Some c) allowed =
    let outer = both (nat_le 1 c.least && nat_le c.least c.most) (nat_le c.most c.bricks && nat_le c.bricks MAX_BRICKS) allowed in
    let first = both (nat_le 1 c.least) (nat_le c.least c.most) outer.0 in
    let second = both (nat_le c.most c.bricks) (nat_le c.bricks MAX_BRICKS) outer.1 in
    new c.bricks c.most c.least true (at_least 1 c.least first.0) (at_least c.least c.most first.1) (at_least c.most c.bricks second.0) (at_least c.bricks MAX_BRICKS second.1)

-- passes to distinct bricks are to distinct ones
none_same : (brick : BrickNo) (passes : List Pass) → All (λ (other : Pass). brick.0 ≡ other.brick.0 → ⊥) passes → list_any (same_brick brick) (map (λ (pass : Pass). pass.brick) passes) ≡ false
none_same brick [] apart = refl
none_same brick (pass ∷ passes) apart =
    let P : Pass → Type 0 = λ other. brick.0 ≡ other.brick.0 → ⊥ in
    let first : same_brick brick pass.brick ≡ false = number_other brick.0 pass.brick.0 (All-head P pass passes apart) in
    (λ l. first l || none_same brick passes (All-tail P pass passes apart) l)

distinct_bricks : (passes : List Pass) → HaveDistinctBricks passes → are_distinct (map (λ (pass : Pass). pass.brick) passes) ≡ true
distinct_bricks [] apart = refl
distinct_bricks (pass ∷ passes) apart = (λ l. not (none_same pass.brick passes apart.0 l) && distinct_bricks passes apart.1 l)

-- a write may begin with the passes that are taken
may_begin : (s : SessionsState) (st : LanesState) → KeepLimits st.windows → AreTaken st.windows.wq st.windows.w (passes_of s st) → is_new st.world (nonce s) ≡ true → may_write st.world (nonce s) (bricks_of_write s st) st.windows.wq ≡ true
may_begin s st keep taken new =
    let passes : List Pass = passes_of s st in
    let count : length (bricks_of_write s st) ≡ length passes = length-map passes (λ (pass : Pass). pass.brick) in
    let least : nat_le 1 (length (bricks_of_write s st)) ≡ true = is_at_least 1 _ (omega (arith, count, taken.enough, keep.some)) in
    let most : nat_le (length (bricks_of_write s st)) MAX_HOLDERS ≡ true = is_at_least _ MAX_HOLDERS (omega (arith, count, taken.most, keep.within, keep.few)) in
    let some : nat_le 1 st.windows.wq ≡ true = is_at_least 1 st.windows.wq keep.some in
    let enough : nat_le st.windows.wq (length (bricks_of_write s st)) ≡ true = is_at_least st.windows.wq _ (omega (arith, count, taken.enough)) in
    (λ l. (new l && ((least l && most l) && distinct_bricks passes taken.distinct l)) && (some l && enough l))

-- a write that has ended has an answer, and not that memory ran out
has_memory : (s : WriteState) → write_answer s ≡ Some (Err missing.OutOfMemory) → ⊥
has_memory s is = go (nat_le s.least (length (filter_map holder_of s.asks))) (turn_after_asks s.asks) is
  where
    cookie : Cookie
    cookie = record { key = s.key; version = s.nonce; expiry = s.expiry; bricks = take s.least (filter_map holder_of s.asks) }

    go : (enough : Bool) (turn : Option (Turn BrickNo)) → (if enough then Some (Ok cookie) else missed_unless turn (filter_map cause_of s.asks)) ≡ Some (Err missing.OutOfMemory) → ⊥
    go true turn e = cc
    go false None e = cc
    go false (Some turn) e = cc

written_done : (s : SessionsState) (key : ℕ) (write : WriteState) (answer : Result Cookie WriteRefusal) → write_answer write ≡ Some answer → written_as s key answer ≡ Refused → ⊥
written_done s key write (Ok cookie) answers is = cc
written_done s key write (Err (missing.Missed causes)) answers is = cc
written_done s key write (Err missing.OutOfMemory) answers is = has_memory write answers

-- a write that may begin is not refused
answered : (s : SessionsState) (key : ℕ) (value : List ℕ) (st : LanesState) → LanesAreSound st → may_write st.world (nonce s) (bricks_of_write s st) st.windows.wq ≡ true
    → answered_write (drawn s) key (passes_of s st) (length st.world.calls) (store_after_write s key value st) ≡ Refused → ⊥
answered s key value st sound may is =
    let v : LanesState = store_after_write s key value st in
    let gone : WriteGone (write_start (bricks_of_write s st) st.windows.wq (nonce s) (session_key key) value (expiry s)) (length st.world.calls) v = write_ended s key value st sound may in
    let write : WriteState = gone.end in
    let later : SessionsState = with_store (drawn s) (spent_by write (passes_of s st) v) in
    let first : answered_write (drawn s) key (passes_of s st) (length st.world.calls) v ≡ told_write later key write =
    ap (λ c. or_refused (write_of c) (λ w. told_write (with_store (drawn s) (spent_by w (passes_of s st) v)) key w)) gone.there in
    let second : told_write later key write ≡ written_as later key gone.answer = ap (λ o. or_refused o (λ a. written_as later key a)) gone.answers in
    written_done later key write gone.answer gone.answers (sym second ∙ sym first ∙ is)

not_refused_new : (s : SessionsState) (key : ℕ) (value : List ℕ) (st : LanesState) → TakenLaw → s.store ≡ Some st → LanesAreSound st → KeepLimits st.windows → is_new st.world (nonce s) ≡ true → write_line s key value ≡ Refused → ⊥
unfolding write_line
not_refused_new s key value st taken_law store_is sound keep new is =
    go (nat_lt (open_count st.windows.facts) st.windows.wq) refl (sym second ∙ sym first ∙ is)
  where
    either : LanesState → Bool → Answer SessionsState
    either x full =
        if full
        then Done (with_store (drawn s) (record x { windows = refused x.windows })) (overload_text key (full_facts x.windows.facts))
        else answered_write (drawn s) key (passes_of s x) (length x.world.calls) (store_after_write s key value x)

    rest : LanesState → Answer SessionsState
    rest x = refused_if (not (is_new x.world (nonce s))) (either x (nat_lt (open_count x.windows.facts) x.windows.wq))

    first : or_refused s.store rest ≡ rest st
    first = ap (λ o. or_refused o rest) store_is

    second : rest st ≡ either st (nat_lt (open_count st.windows.facts) st.windows.wq)
    second = ap (λ b. refused_if (not b) (either st (nat_lt (open_count st.windows.facts) st.windows.wq))) new

    go : (full : Bool) → nat_lt (open_count st.windows.facts) st.windows.wq ≡ full → either st full ≡ Refused → ⊥
    go true at e = cc
    go false at e = answered s key value st sound (may_begin s st keep (taken_law st.windows s.serial keep (not_less (open_count st.windows.facts) st.windows.wq at)) new) e

-- a write line is refused only where there are no bricks, or where a call has had its nonce
pub write_refused : LimitsLaw → NewLaw → TakenLaw → (setup : SetupState) (boot : ℕ) (turns : List SessionTurn) (u : SessionsState) (st : LanesState) (key : ℕ) (value : List ℕ) → HasCounts setup.counts → Lead (set_up setup boot) turns u → u.store ≡ Some st
    → session_line u (lines.Write key value) ≡ Refused → is_new st.world (nonce u) ≡ false
write_refused limits new_law taken_law setup boot turns u st key value allowed leads store_is is = go (is_new st.world (nonce u)) refl
  where
    to_u : TurnsGo (set_up setup boot) turns u
    to_u = turns_go turns (set_up setup boot) u (set_up_sound setup boot) leads

    keep : KeepLimits st.windows
    keep = windows_of u.store st store_is (to_u.windows limits (counts_keep new_law setup.counts allowed))

    go : (new : Bool) → is_new st.world (nonce u) ≡ new → new ≡ false
    go false at = refl
    go true at = absurd (not_refused_new u key value st taken_law store_is (all_sound setup boot turns u st leads store_is) keep at is)

-- the bricks of a setup that head lines make are as many as they allow
pub none_counts : HasCounts no_setup.counts
none_counts = tt

pub bricks_counts : (setup : SetupState) (bricks most least : ℕ) (t : SetupState) (text : List ℕ) → bricks_step setup bricks most least ≡ Done t text → HasCounts t.counts
unfolding bricks_step
bricks_counts setup bricks most least t text is =
    let later : SetupState = record setup { counts = Some (record { bricks = bricks; most = most; least = least }) } in
    let first = not_refused (is_some setup.counts) (refused_if (not (are_counts bricks most least)) (Done later [])) t text is in
    let second = not_refused (not (are_counts bricks most least)) (Done later []) t text first.1 in
    let state : t ≡ later = (done_state later t [] text second.1).0 in
    subst (λ (x : SetupState). HasCounts x.counts) (sym state) (not_false (are_counts bricks most least) second.0)

pub key_counts : (setup : SetupState) (key : List ℕ) (t : SetupState) (text : List ℕ) → HasCounts setup.counts → key_step setup key ≡ Done t text → HasCounts t.counts
unfolding key_step
key_counts setup key t text allowed is =
    let later : SetupState = record setup { key = Some key } in
    let first = not_refused (nat_lt (length key) LEAST_KEY_BYTES) (refused_if (nat_lt MOST_KEY_BYTES (length key)) (Done later [])) t text
    (not_refused (is_some setup.key) (refused_if (nat_lt (length key) LEAST_KEY_BYTES) (refused_if (nat_lt MOST_KEY_BYTES (length key)) (Done later []))) t text is).1 in
    let second = not_refused (nat_lt MOST_KEY_BYTES (length key)) (Done later []) t text first.1 in
    let state : t ≡ later = (done_state later t [] text second.1).0 in
    subst (λ (x : SetupState). HasCounts x.counts) (sym state) allowed
