-- A connection stands with each of its steps.
use Rattle.std.proofs.Common.{◌≡◌, ℕ, ◌<◌, true, false, if◌then◌else◌, List, [], ◌++◌, refl, sym, ap, ◌∙◌, subst, Option, Some, None}
use Rattle.std.proofs.lemmas.List.{append_assoc}
use Rattle.crash_base.specs.declared.numbers.Place.{Place}
use Rattle.crash_base.specs.declared.numbers.WorkerNo.{WorkerNo}
use Rattle.auction_calls.specs.declared.action.ActionCall.{ActionCall}
use Rattle.http_wire.specs.Requests.{closed, ended, requests}
use Rattle.http_wire.specs.declared.taken.Head.{Head}
use Rattle.outcome_items.specs.declared.item.Item.{Item}
use Rattle.outside.specs.declared.clock.TheConstants.{MOMENTS_END}
use Rattle.request_visit.specs.Visits.{turn as visit_turn}
use Rattle.request_visit.specs.declared.visit.Turn.TheVariants as visit
use Rattle.request_visit.specs.declared.visit.Visit.{Visit}
use Rattle.request_visit.specs.declared.visit.Work.{Work}
use Rattle.request_visit.specs.declared.visit.Work.TheVariants.{Serving as ServingBy}
use Rattle.send_windows.specs.Windows.{WindowsValue}
use Rattle.session_way.specs.Way.{wants}
use Rattle.shepherd.specs.Shepherds.{fresh, turn}
use Rattle.shepherd.specs.Standing.{IsOpen, IsOpenFor, Standing, all_before, coming, has_left, heads_of}
use Rattle.shepherd.specs.Steps.{GivesBack, OnVisit, OpensCall, OpensStage, ShepherdSteps, StepsVisit, dropped_stage}
use Rattle.shepherd.specs.declared.shepherd.AskedCall.{AskedCall}
use Rattle.shepherd.specs.declared.shepherd.Shepherd.{Shepherd}
use Rattle.shepherd.specs.declared.shepherd.ShepherdTurn.TheVariants as turns
use Rattle.shepherd.specs.declared.shepherd.Stage.{Stage}
use Rattle.shepherd.specs.declared.shepherd.Stage.TheVariants.{Resting, Serving, Refusing, Over}
use Rattle.shepherd.proofs.Keeping.{Keeps, back_keeps, dropping_keeps}
use Rattle.shepherd.proofs.Turning.{asks_visit, early}

pub begins : (P : Type 0) → Standing {P = P} [] [] [] [] fresh
begins P = record {
  served = [];
  opened = [];
  sent = [];
  heads_are = refl;
  items_are = refl;
  requests_are = λ more. refl;
  written_is = refl;
  is_open = (refl, refl);
  front_is = refl;
}

pub still : {P : Type 0} (bytes : List ℕ) (heads : List Head) (written : List ℕ) (items : List Item) (s new : Shepherd P)
    → new.stage ≡ s.stage → new.front ≡ s.front → new.received ≡ s.received → Standing bytes heads written items s → Standing bytes heads written items new
still bytes heads written items s new stage front received h = record {
  served = h.served;
  opened = h.opened;
  sent = h.sent;
  heads_are = h.heads_are;
  items_are = h.items_are;
  requests_are = λ more. h.requests_are more
      ∙ ap (λ x. all_before (heads_of h.served ++ h.opened) (coming x (s.received ++ more))) (sym stage)
      ∙ ap (λ xs. all_before (heads_of h.served ++ h.opened) (coming new.stage (xs ++ more))) (sym received);
  written_is = h.written_is;
  is_open = subst (λ x. IsOpen new.front x h.opened h.sent) (sym stage) (subst (λ f. IsOpen f s.stage h.opened h.sent) (sym front) h.is_open);
  front_is = front ∙ h.front_is;
}

pub fed : {P : Type 0} (bytes more : List ℕ) (heads : List Head) (written : List ℕ) (items : List Item) (s : Shepherd P) → Standing bytes heads written items s
    → Standing (bytes ++ more) heads written items (record s { received = s.received ++ more })
fed bytes more heads written items s h = record {
  served = h.served;
  opened = h.opened;
  sent = h.sent;
  heads_are = h.heads_are;
  items_are = h.items_are;
  requests_are = λ rest.
      ap requests (append_assoc bytes more rest) ∙ h.requests_are (more ++ rest)
      ∙ ap (λ bs. all_before (heads_of h.served ++ h.opened) (coming s.stage bs)) (sym (append_assoc s.received more rest));
  written_is = h.written_is;
  is_open = h.is_open;
  front_is = h.front_is;
}

pub no_more : {P : Type 0} (bytes : List ℕ) (heads : List Head) (written : List ℕ) (items : List Item) (s : Shepherd P) → Standing bytes heads written items s → Standing bytes heads written items (record s { ended = true })
no_more bytes heads written items s h = record {
  served = h.served;
  opened = h.opened;
  sent = h.sent;
  heads_are = h.heads_are;
  items_are = h.items_are;
  requests_are = h.requests_are;
  written_is = h.written_is;
  is_open = h.is_open;
  front_is = h.front_is;
}

-- the requests that are to come are the same for a request with the same facts
kept_open : {P : Type 0} (front : Place) (v w : Visit P) (call : Option AskedCall) (opened : List Head) (sent : List ℕ) → Keeps v w
    → IsOpenFor front v call opened sent → IsOpenFor front w call opened sent
kept_open front v w call opened sent keeps o = record {
  head = o.head;
  opened_is = o.opened_is;
  close_is = ap (λ f. f.close) keeps.facts ∙ o.close_is;
  head_only_is = ap (λ f. f.head_only) keeps.facts ∙ o.head_only_is;
  front_is = ap (λ f. f.front) keeps.facts ∙ o.front_is;
  small = subst (λ f. f.now.0 < MOMENTS_END) (sym keeps.facts) o.small;
  sent_is = λ e. o.sent_is (keeps.left e);
  asked = λ e. o.asked (keeps.early e);
}

-- A stage with another request that has the same facts stands.
pub with_visit : {P : Type 0} (fed : List ℕ) (heads : List Head) (written : List ℕ) (items : List Item) (s : Shepherd P) (stage : Stage P) (v w : Visit P) (call : Option AskedCall)
    → s.stage ≡ Serving v call → stage ≡ Serving w call → Keeps v w → Standing fed heads written items s → Standing fed heads written items (record s { stage = stage })
with_visit fed heads written items s stage v w call was is keeps h =
    subst (λ x. Standing fed heads written items (record s { stage = x })) (sym is) (record {
      served = h.served;
      opened = h.opened;
      sent = h.sent;
      heads_are = h.heads_are;
      items_are = h.items_are;
      requests_are = λ more. subst (λ x. requests (fed ++ more) ≡ all_before (heads_of h.served ++ h.opened) (coming x (s.received ++ more))) was (h.requests_are more)
          ∙ ap (λ f. all_before (heads_of h.served ++ h.opened) (if f.close then ended closed else requests (s.received ++ more))) (sym keeps.facts);
      written_is = h.written_is;
      is_open = kept_open s.front v w call h.opened h.sent keeps (subst (λ x. IsOpen s.front x h.opened h.sent) was h.is_open);
      front_is = h.front_is;
    })

-- A connection whose request made a step that keeps it stands.
pub stepped : {P : Type 0} (So : Visit P → Visit P → Type 0) → ((v w : Visit P) → So v w → Keeps v w)
    → (fed : List ℕ) (heads : List Head) (written : List ℕ) (items : List Item) (old new : Shepherd P) → ShepherdSteps So old new → Standing fed heads written items old → Standing fed heads written items new
stepped {P} So keeps fed heads written items old new steps h =
    subst (λ x. Standing fed heads written items x) (sym steps.rest) (by old.stage refl steps.steps) where
      by : (stage : Stage P) → old.stage ≡ stage → StepsVisit So stage new.stage → Standing fed heads written items (record old { stage = new.stage })
      by Resting is visits = absurd visits
      by (Serving v call) is visits = with_visit fed heads written items old new.stage v visits.0 call is visits.2 (keeps v visits.0 visits.1) h
      by (Refusing why bytes) is visits = absurd visits
      by (Over end) is visits = absurd visits

pub given_up : {P : Type 0} (fed : List ℕ) (heads : List Head) (written : List ℕ) (items : List Item) (s : Shepherd P) → Standing fed heads written items s → Standing fed heads written items (record s { stage = dropped_stage s.stage })
given_up {P} fed heads written items s h = by s.stage refl where
  same : (stage : Stage P) → s.stage ≡ stage → Standing fed heads written items (record s { stage = stage })
  same stage is = subst (λ x. Standing fed heads written items (record s { stage = x })) is h

  by : (stage : Stage P) → s.stage ≡ stage → Standing fed heads written items (record s { stage = dropped_stage stage })
  by Resting is = same Resting is
  by (Serving v call) is = with_visit fed heads written items s (dropped_stage (Serving v call)) v (record v { work = Rattle.request_visit.specs.Stepping.dropped v.work }) call is refl (dropping_keeps v) h
  by (Refusing why bytes) is = same (Refusing why bytes) is
  by (Over end) is = same (Over end) is

-- the program of an early request was made
pub opens : {P M : Type 0} (makes : M → ActionCall → List ℕ → P → Type 0) (maker : M) (worker : WorkerNo) (fed : List ℕ) (heads : List Head) (written : List ℕ) (items : List Item) (s : Shepherd P) (stage : Stage P)
    → turn s ≡ turns.Program → OpensStage makes maker worker s.stage stage → Standing fed heads written items s → Standing fed heads written items (record s { stage = stage })
opens {P} makes maker worker fed heads written items s stage is does h = by s.stage refl does (asks_visit s visit.Program (ap Rattle.shepherd.proofs.Turning.step_of is)) where
  one : (v : Visit P) (call : Option AskedCall) → s.stage ≡ Serving v call → visit_turn v ≡ visit.Program → OpensCall makes maker worker v call stage → Standing fed heads written items (record s { stage = stage })
  one v None was turned opened = absurd opened
  one v (Some asked) was turned opened =
      let o : IsOpenFor s.front v (Some asked) h.opened h.sent = subst (λ x. IsOpen s.front x h.opened h.sent) was h.is_open in
      let made : Visit P = record v { work = ServingBy (Rattle.request_tries.specs.Serving.unbegun asked.request worker opened.1.text) opened.1.program } in
      let stage_is : stage ≡ Serving made None = opened.2 ∙ ap (λ x. Serving x None) opened.1.new_is in
      subst (λ x. Standing fed heads written items (record s { stage = x })) (sym stage_is) (record {
        served = h.served;
        opened = h.opened;
        sent = h.sent;
        heads_are = h.heads_are;
        items_are = h.items_are;
        requests_are = λ more. subst (λ x. requests (fed ++ more) ≡ all_before (heads_of h.served ++ h.opened) (coming x (s.received ++ more))) was (h.requests_are more);
        written_is = h.written_is;
        is_open = record {
          head = o.head;
          opened_is = o.opened_is;
          close_is = o.close_is;
          head_only_is = o.head_only_is;
          front_is = o.front_is;
          small = o.small;
          sent_is = λ e. o.sent_is (never v.work (wants v.way) turned);
          asked = λ e. absurd (cc);
        };
        front_is = h.front_is;
      }) where
        never : (w : Work P) (want : Rattle.session_way.specs.declared.way.Wants.Wants) → Rattle.request_visit.specs.Visits.turn_by w want ≡ visit.Program → has_left w ≡ false
        never w want e = Rattle.shepherd.proofs.Turning.unmade w want e

  by : (x : Stage P) → s.stage ≡ x → OpensStage makes maker worker x stage → OnVisit x (λ v call. visit_turn v ≡ visit.Program) → Standing fed heads written items (record s { stage = stage })
  by Resting was opened turned = absurd opened
  by (Serving v call) was opened turned = one v call was turned opened
  by (Refusing why bytes) was opened turned = absurd opened
  by (Over end) was opened turned = absurd opened

pub given_back : {P : Type 0} (fed : List ℕ) (heads : List Head) (written : List ℕ) (items : List Item) (s : Shepherd P) (stage : Stage P) (windows after : WindowsValue) → GivesBack s.stage windows stage after
    → Standing fed heads written items s → Standing fed heads written items (record s { stage = stage })
given_back {P} fed heads written items s stage windows after back h = by s.stage refl back where
  same : (x : Stage P) → s.stage ≡ x → stage ≡ x → Standing fed heads written items (record s { stage = stage })
  same x was is = subst (λ y. Standing fed heads written items (record s { stage = y })) (was ∙ sym is) h

  by : (x : Stage P) → s.stage ≡ x → GivesBack x windows stage after → Standing fed heads written items (record s { stage = stage })
  by Resting was b = same Resting was b.0
  by (Serving v call) was b = with_visit fed heads written items s stage v b.0 call was b.2 (back_keeps v b.0 b.1.back) h
  by (Refusing why bytes) was b = same (Refusing why bytes) was b.0
  by (Over end) was b = same (Over end) was b.0
