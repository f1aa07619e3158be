-- A request after a step in the windows is the one that the function gives.
use Rattle.std.proofs.Common.{◌≡◌, ◌≤◌, ◌+◌, ◌%◌, inl, inr, ℕ, Bool, false, List, ◌++◌, length, map, filter, take, drop, Option, Some, None, Result, refl, sym, ap, ◌∙◌, arith, length-append, length-take, nat_lt, if◌then◌else◌}
use Rattle.std.specs.Prelude.{option_map}
use Rattle.std.proofs.lemmas.Bool.{le-ltb, lt-ltb}
use Rattle.std.proofs.lemmas.List.{length-map, take-append-drop}
use Rattle.std.proofs.lemmas.List.Elements.{filter-append}
use Rattle.request_visit.specs.Stepping.{VisitsWindows}
use Rattle.request_visit.specs.Visits.{after_outcome, overloaded}
use Rattle.request_visit.specs.declared.visit.Visit.{Visit}
use Rattle.send_windows.specs.Facts.{full_facts, is_open, open_count, open_passes, round_from}
use Rattle.send_windows.specs.Passes.{hushed, unheard}
use Rattle.send_windows.specs.Windows.{WindowsValue, after_spend, chosen, refused, taken}
use Rattle.send_windows.specs.declared.fact.WindowFact.{WindowFact}
use Rattle.send_windows.specs.declared.windows.TakeRefusal.TheVariants as takes_refusal
use Rattle.session_cookie.specs.declared.cookie.Cookie.{Cookie}
use Rattle.session_way.specs.Way.{IsRefused, StepsWindows, answer_held, passes_for}
use Rattle.session_way.specs.Writing.{answer_of_write, passes_spent, write_begun}
use Rattle.session_way.specs.declared.session_write.WriteOutcome.{WriteOutcome}
use Rattle.session_way.specs.declared.session_write.WriteOutcome.TheVariants as outcome
use Rattle.session_way.specs.declared.way.SessionWay.{SessionWay}
use Rattle.session_way.specs.declared.way.SessionWay.TheVariants as way
use Rattle.shepherd_steps.specs.Passes.{goes, outcome_of, windows_by, windows_step}
use Rattle.ssm_stub.specs.declared.write_call.WriteRefusal.{WriteRefusal}

-- going round from a place changes nothing in how many windows are open
all-round : (at : ℕ) (facts : List WindowFact) → length (open_passes (drop at facts ++ take at facts)) ≡ open_count facts
all-round at facts =
    length-map (filter is_open (drop at facts ++ take at facts)) (λ (fact : WindowFact). unheard fact.brick)
    ∙ (count_parts (drop at facts) (take at facts)
    ∙ (swap ∙ (sym (count_parts (take at facts) (drop at facts)) ∙ ap open_count (take-append-drop at facts))))
  where
    count_parts : (xs ys : List WindowFact) → open_count (xs ++ ys) ≡ open_count xs + open_count ys
    count_parts xs ys = ap length (filter-append is_open xs ys) ∙ length-append (filter is_open xs) (filter is_open ys)

    swap : open_count (drop at facts) + open_count (take at facts) ≡ open_count (take at facts) + open_count (drop at facts)
    swap = omega arith

-- passes are taken only where as many windows are open
enough-open : (s : WindowsValue) (first : ℕ) → s.wq ≤ length (chosen s first) → nat_lt (open_count s.facts) s.wq ≡ false
enough-open s first enough =
    let round = all-round (first % length s.facts) s.facts in
    let size = length-take s.w (open_passes (round_from first s.facts)) in
    le-ltb (open_count s.facts) s.wq (omega arith)

-- what a write came to, by its answer
told-so : (told : Option WriteOutcome) (answer : Option (Result Cookie WriteRefusal)) → option_map answer_of_write told ≡ answer → told ≡ outcome_of answer
told-so told answer is = back told ∙ ap outcome_of is where
  back : (o : Option WriteOutcome) → o ≡ outcome_of (option_map answer_of_write o)
  back None = refl
  back (Some (outcome.Written cookie)) = refl
  back (Some (outcome.Missed causes)) = refl

-- a request that has gone on by a way, and was told what its write came to
gone : {P : Type 0} (old : Visit P) (new_way to : SessionWay) (windows after spent : WindowsValue) (told : Option WriteOutcome) (new : Visit P)
    → option_map answer_of_write told ≡ answer_held old.way → new ≡ after_outcome told (record old { way = new_way })
    → new_way ≡ to → after ≡ spent → (new, after) ≡ goes old to spent
gone {P} old new_way to windows after spent told new is new_is way_is after_is =
    ap (λ (v : Visit P). (v, after)) new_is
    ∙ (ap (λ (o : Option WriteOutcome). (after_outcome o (record old { way = new_way }), after)) (told-so told (answer_held old.way) is)
    ∙ (ap (λ (w : SessionWay). (after_outcome (outcome_of (answer_held old.way)) (record old { way = w }), after)) way_is
    ∙ ap (λ (a : WindowsValue). (after_outcome (outcome_of (answer_held old.way)) (record old { way = to }), a)) after_is))

given-so : {P : Type 0} (old : Visit P) (w : SessionWay) (windows : WindowsValue) (new : Visit P) (after : WindowsValue) (told : Option WriteOutcome)
    → option_map answer_of_write told ≡ answer_held old.way → new ≡ after_outcome told (record old { way = new.way })
    → StepsWindows w windows new.way after → (new, after) ≡ windows_by old w windows
given-so old way.Resting windows new after told is new_is steps = absurd steps
given-so old (way.Reading r) windows new after told is new_is steps = absurd steps
given-so {P} old (way.Ordered order) windows new after told is new_is steps =
    gone old new.way (way.Writing (write_begun order windows.wq (passes_for order windows))) windows after (taken windows (passes_for order windows)) told new is new_is steps.writes steps.after
    ∙ sym (ap (λ (b : Bool). if b then (record old { way = way.Resting; work = overloaded (full_facts windows.facts) old.work }, refused windows)
    else goes old (way.Writing (write_begun order windows.wq (passes_for order windows))) (taken windows (passes_for order windows)))
    (enough-open windows order.nonce.serial steps.lawful.enough))
given-so old (way.Writing w) windows new after told is new_is steps = absurd steps
given-so old (way.Settling w) windows new after told is new_is steps =
    gone old new.way way.Resting windows after (after_spend windows (passes_spent w)) told new is new_is steps.0 steps.1
given-so old (way.Holding passes) windows new after told is new_is steps =
    gone old new.way way.Resting windows after (after_spend windows (map hushed passes)) told new is new_is steps.0 steps.1

refused-so : {P : Type 0} (old : Visit P) (w : SessionWay) (windows : WindowsValue) (new : Visit P) (after : WindowsValue) (full : List WindowFact)
    → IsRefused w windows new.way after (takes_refusal.Overload full) → new ≡ record old { way = new.way; work = overloaded full old.work }
    → (new, after) ≡ windows_by old w windows
refused-so old way.Resting windows new after full refuses new_is = absurd refuses
refused-so old (way.Reading r) windows new after full refuses new_is = absurd refuses
refused-so {P} old (way.Ordered order) windows new after full refuses new_is =
    ap (λ (v : Visit P). (v, after)) new_is
    ∙ (ap (λ (x : SessionWay). (record old { way = x; work = overloaded full old.work }, after)) refuses.0
    ∙ (ap (λ (f : List WindowFact). (record old { way = way.Resting; work = overloaded f old.work }, after)) refuses.1.1
    ∙ (ap (λ (a : WindowsValue). (record old { way = way.Resting; work = overloaded (full_facts windows.facts) old.work }, a)) refuses.1.2
    ∙ sym (ap (λ (b : Bool). if b then (record old { way = way.Resting; work = overloaded (full_facts windows.facts) old.work }, refused windows)
    else goes old (way.Writing (write_begun order windows.wq (passes_for order windows))) (taken windows (passes_for order windows)))
    (lt-ltb (open_count windows.facts) windows.wq refuses.1.0)))))
refused-so old (way.Writing w) windows new after full refuses new_is = absurd refuses
refused-so old (way.Settling w) windows new after full refuses new_is = absurd refuses
refused-so old (way.Holding passes) windows new after full refuses new_is = absurd refuses

pub windows-fixed : {P : Type 0} (old : Visit P) (windows : WindowsValue) (new : Visit P) (after : WindowsValue)
    → VisitsWindows old windows new after → (new, after) ≡ windows_step old windows
unfolding windows_step
windows-fixed old windows new after (inl given) = given-so old old.way windows new after given.outcome given.is_outcome given.new_is given.step
windows-fixed old windows new after (inr refuses) = refused-so old old.way windows new after refuses.full refuses.refused refuses.new_is
