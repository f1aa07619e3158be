-- Turns of the workload, one after the other.
use Rattle.std.proofs.Common.{◌≡◌, ℕ, ◌+◌, ◌<◌, ◌≤◌, ◌⊎◌, inl, inr, Bool, true, false, List, [], ◌∷◌, ◌++◌, length, Option, Some, None, MatchOption, IfSome, refl, sym, ap, ◌∙◌, subst, arith, length-append}
use Rattle.std.specs.Prelude.{not, slice_set, All}
use Rattle.std.specs.List.{fold, list_any}
use Rattle.std.proofs.lemmas.Bool.{cases_lt}
use Rattle.std.proofs.lemmas.List.{get_or-set_same, get_or_past, length-set, set-set, set-get_or}
use Rattle.std.proofs.lemmas.List.Elements.{All-set, All-weaker}
use Rattle.outside.specs.Faults.{Rose}
use Rattle.call_ticket.specs.Ticket.{TicketValue}
use Rattle.boot_core.specs.Boot.{BootValue, HasGrown}
use Rattle.boot_core.specs.declared.boot.Start.{Start}
use Rattle.line_steps.specs.Callers.{caller_at, ended, IsAway, TakesCall}
use Rattle.line_steps.specs.declared.callers.Caller.{Caller}
use Rattle.line_steps.specs.declared.callers.Caller.TheVariants.{Absent, Live}
use Rattle.workload.specs.Choices.{chosen, next_number}
use Rattle.workload.specs.Tally.{answers, counted_if}
use Rattle.workload.specs.Turns.{TurnLeft, Work, after_turn, caller_left, first_work, in_hand, turn, turn_by, work_at, worked}
use Rattle.workload.specs.Working.{GoesOn, CallerGoesOn, IsGoing, AreCounted, ComesBy}
use Rattle.workload.specs.declared.choices.Choice.{Choice}
use Rattle.workload.specs.declared.choices.TheConstants.{LAST_CALLER}
use Rattle.workload.specs.declared.tally.Outcome.{Outcome}
use Rattle.workload.specs.declared.tally.Outcome.TheVariants as outcomes
use Rattle.workload.specs.declared.tally.Tally.{Tally}
use Rattle.workload.proofs.Going.{goes_grown}

-- the call that is taken of a caller

away : (x : Caller) → IsAway x → x ≡ Absent
away Absent h = refl
away (Live ticket) h = absurd h

not_there : (callers : List Caller) (n : ℕ) → caller_at callers n ≡ Absent → ended callers n ≡ callers
not_there callers n is = ap (slice_set callers n) (sym is) ∙ set-get_or callers n Absent

pub taken_call : (old new : List Caller) (n : ℕ) (call : Option TicketValue) → MatchOption call ((new ≡ old) × IsAway (caller_at old n)) (λ t. TakesCall old new n t) → (caller_at old n ≡ in_hand call) × (new ≡ ended old n)
taken_call old new n None h = (away (caller_at old n) h.1, h.0 ∙ sym (not_there old n (away (caller_at old n) h.1)))
taken_call old new n (Some ticket) h = (h.live, h.taken)

pub none_back : (callers : List Caller) (n : ℕ) → caller_at callers n ≡ Absent → callers ≡ slice_set callers n (in_hand None)
none_back callers n is = sym (not_there callers n is)

-- no call is there once it was taken
pub taken_away : (old mid : List Caller) (n : ℕ) → mid ≡ ended old n → caller_at mid n ≡ Absent
taken_away old mid n is = ap (λ cs. caller_at cs n) is ∙ go old n
  where
    go : (xs : List Caller) (n : ℕ) → caller_at (ended xs n) n ≡ Absent
    go xs n = elim (cases_lt n (length xs)) [
      | inl within ↦ get_or-set_same xs n Absent Absent within
      | inr past ↦ get_or_past (ended xs n) n Absent (let l : length (ended xs n) ≡ length xs = length-set xs n Absent in omega (arith, l, past))
    ]

pub places_kept : (old mid : List Caller) (n : ℕ) → mid ≡ ended old n → length mid ≡ length old
places_kept old mid n is = ap length is ∙ length-set old n Absent

-- each live call goes on

going_at : (b : BootValue) (callers : List Caller) (n : ℕ) → All (CallerGoesOn b) callers → CallerGoesOn b (caller_at callers n)
going_at b callers n all = elim (cases_lt n (length callers)) [
  | inl within ↦ all n Absent within
  | inr past ↦ (let P : Caller → Type 0 = λ x. CallerGoesOn b x in subst P (sym (get_or_past callers n Absent past)) tt)
]

of_hand : (b : BootValue) (call : Option TicketValue) → CallerGoesOn b (in_hand call) → IfSome call (GoesOn b)
of_hand b None goes = tt
of_hand b (Some ticket) goes = goes

to_hand : (b : BootValue) (call : Option TicketValue) → IfSome call (GoesOn b) → CallerGoesOn b (in_hand call)
to_hand b None goes = tt
to_hand b (Some ticket) goes = goes

pub goes_taken : (b : BootValue) (callers : List Caller) (n : ℕ) (call : Option TicketValue) → IsGoing b callers → caller_at callers n ≡ in_hand call → IfSome call (GoesOn b)
goes_taken b callers n call going is =
    let P : Caller → Type 0 = λ x. CallerGoesOn b x in
    of_hand b call (subst P is (going_at b callers n going.calls))

pub going_on : (old new : BootValue) (callers mid now : List Caller) (n : ℕ) (call : Option TicketValue) → IsGoing old callers → HasGrown old new → mid ≡ ended callers n → now ≡ slice_set mid n (in_hand call) → IfSome call (GoesOn new) → IsGoing new now
going_on old new callers mid now n call going grown taken back goes =
    let P : List Caller → Type 0 = λ cs. All (CallerGoesOn new) cs in
    let calls : All (CallerGoesOn new) callers = All-weaker (CallerGoesOn old) (CallerGoesOn new) (λ x. go x) callers going.calls in
    let without : All (CallerGoesOn new) mid = subst P (sym taken) (All-set (CallerGoesOn new) callers n Absent tt calls) in
    record {
      parts = ap (λ (s : Start). s.deployment) grown.start ∙ going.parts;
      calls = subst P (sym back) (All-set (CallerGoesOn new) mid n (in_hand call) (to_hand new call goes) without);
    }
  where
    go : (x : Caller) → CallerGoesOn old x → CallerGoesOn new x
    go Absent goes = tt
    go (Live ticket) goes = goes_grown old new ticket grown goes

pub one_more : (outcome : Option Outcome) (t : Tally) → answers (counted_if outcome t) ≤ answers t + 1
one_more None t = omega arith
one_more (Some outcomes.Committed) t = omega arith
one_more (Some outcomes.Revoked) t = omega arith
one_more (Some outcomes.Conflict) t = omega arith
one_more (Some outcomes.Refused) t = omega arith

pub turned : (w : Work) (drawn : ℕ) (choice : Choice) (call : Option TicketValue) (left : TurnLeft) (mid now : List Caller) (tally : Tally) (old new : ℕ) → drawn ≡ next_number w.number → choice ≡ chosen drawn → caller_at w.callers choice.caller ≡ in_hand call → mid ≡ ended w.callers choice.caller → now ≡ slice_set mid choice.caller (in_hand left.ticket) → tally ≡ counted_if left.outcome w.tally → ComesBy left (λ keeps. caller_left w.boot w.turns choice keeps (in_hand call)) old new → ComesBy (work_at drawn (w.turns + 1) left.boot now tally) (turn w) old new
unfolding turn
turned w drawn choice call left mid now tally old new next which had taken back counts comes =
    let n : ℕ = choice.caller in
    let k : ℕ = w.turns + 1 in
    let set : now ≡ slice_set w.callers n (in_hand left.ticket) = back ∙ ap (λ cs. slice_set cs n (in_hand left.ticket)) taken ∙ set-set w.callers n Absent (in_hand left.ticket) in
    let after : work_at drawn k left.boot now tally ≡ after_turn w drawn n left = ap (λ cs. work_at drawn k left.boot cs tally) set ∙ ap (λ t. work_at drawn k left.boot (slice_set w.callers n (in_hand left.ticket)) t) counts in
    record {
      keeps = comes.keeps;
      is = after ∙ ap (after_turn w drawn n) comes.is ∙ ap (λ x. after_turn w drawn n (caller_left w.boot w.turns choice comes.keeps x)) (sym had) ∙ ap (λ c. turn_by w drawn c comes.keeps) which ∙ ap (λ d. turn_by w d (chosen d) comes.keeps) next;
      rose = comes.rose;
    }

-- turns, one after the other

-- So many turns were taken, from the boot that was opened on.
pub record HasTurned (number k : ℕ) (opened : BootValue) (drawn : ℕ) (b : BootValue) (callers : List Caller) (tally : Tally) (old new : ℕ) : Type 0 where
  pub replies : List Bool
  pub turns : length replies ≡ k
  pub is : work_at drawn k b callers tally ≡ worked number opened replies
  pub counted : AreCounted replies old new
  pub count : old ≤ new
  pub going : IsGoing b callers
  pub places : LAST_CALLER < length callers
  pub tallied : answers tally ≤ k

fold_last : {A B : Type 0} (f : B → A → B) (b : B) (xs : List A) (x : A) → fold f b (xs ++ x ∷ []) ≡ f (fold f b xs) x
fold_last f b [] x = refl
fold_last f b (y ∷ ys) x = fold_last f (f b y) ys x

last_or_before : (xs : List Bool) (x : Bool) → list_any not (xs ++ x ∷ []) ≡ true → (list_any not xs ≡ true) ⊎ (x ≡ false)
last_or_before [] true h = absurd (cc)
last_or_before [] false h = inr refl
last_or_before (true ∷ xs) x h = last_or_before xs x h
last_or_before (false ∷ xs) x h = inl refl

pub rose_on : (old mid new : ℕ) → Rose old mid → mid ≤ new → old ≤ mid → Rose old new
rose_on old mid new (inl less) more before = inl (omega (arith, less, more))
rose_on old mid new (inr last) more before = elim (cases_lt old new) [
  | inl less ↦ inl less
  | inr not_less ↦ inr (omega (arith, last, more, before, not_less))
]

pub rose_then : (old mid new : ℕ) → old ≤ mid → Rose mid new → Rose old new
rose_then old mid new before (inl less) = inl (omega (arith, less, before))
rose_then old mid new before (inr last) = inr last

pub one_turn_more : (number k : ℕ) (opened : BootValue) (drawn after : ℕ) (b c : BootValue) (callers now : List Caller) (tally sums : Tally) (old mid new : ℕ) → HasTurned number k opened drawn b callers tally old mid → ComesBy (work_at after (k + 1) c now sums) (turn (work_at drawn k b callers tally)) mid new → mid ≤ new → IsGoing c now → LAST_CALLER < length now → answers sums ≤ k + 1 → HasTurned number (k + 1) opened after c now sums old new
one_turn_more number k opened drawn after b c callers now tally sums old mid new has comes more going places tallied =
    let rs : List Bool = has.replies in
    let x : Bool = comes.keeps in
    record {
      replies = rs ++ x ∷ [];
      turns = length-append rs (x ∷ []) ∙ ap (λ n. n + 1) has.turns;
      is = comes.is ∙ ap (λ w. turn w x) has.is ∙ sym (fold_last turn (first_work number opened) rs x);
      counted = λ h. elim (last_or_before rs x h) [
        | inl earlier ↦ rose_on old mid new (has.counted earlier) more has.count
        | inr last ↦ rose_then old mid new has.count (comes.rose last)
      ];
      count = (let a = has.count in omega (arith, a, more));
      going = going;
      places = places;
      tallied = tallied;
    }
