-- A request that was taken in, by what became of it at once.
use Rattle.std.proofs.Common.{arith, ◌≡◌, ◌==◌, ℕ, Bool, true, false, ne_eqb, if◌then◌else◌, is_none, is_some, slice_index, List, [], ◌∷◌, length, Option, Some, None, refl, sym, ap, ◌∙◌, subst}
use Rattle.crash_base.specs.declared.numbers.RequestNo.{RequestNo}
use Rattle.http_wire.specs.declared.taken.Head.{Head}
use Rattle.request_decisions.specs.Calls.{numbers_for, ordered_call, request_of}
use Rattle.request_decisions.specs.Counts.{count_of}
use Rattle.request_decisions.specs.Decisions.{IsDecided}
use Rattle.request_decisions.specs.Drawing.{IsSpent}
use Rattle.request_decisions.specs.Draws.{AreDrawn, drawn_for}
use Rattle.request_decisions.specs.declared.decision.Decision.{Decision}
use Rattle.request_decisions.specs.declared.decision.Decision.TheVariants as decided
use Rattle.request_decisions.specs.declared.decision.Order.{Order}
use Rattle.request_decisions.specs.declared.decision.Refusal.{Refusal}
use Rattle.request_decisions.specs.declared.draws.Draw.{Draw}
use Rattle.request_decisions.specs.declared.draws.DrawKind.{DrawKind}
use Rattle.request_decisions.specs.declared.draws.DrawKind.TheVariants.{Request, Fresh, Read, Write}
use Rattle.request_intake.specs.Intakes.{Gives, IsAdmittedBy, IsCutShortBy, Looks, TakesIn, TakesInBy, TakesInOrder, admission_of, known_request}
use Rattle.request_intake.specs.declared.intake.Admission.{Admission}
use Rattle.request_intake.specs.declared.intake.Arrival.TheVariants.{Refused, SerialsSpent, Admitted}
use Rattle.request_intake.specs.declared.intake.HomeBoot.{HomeBoot}
use Rattle.request_intake.specs.declared.intake.Intake.{Intake}

one_number : (ns : List ℕ) → length ns ≡ 1 → ns ≡ slice_index ns 0 ∷ []
one_number [] one = absurd (omega (arith, one))
one_number (n ∷ []) one = refl
one_number (n ∷ m ∷ ns) one = absurd (omega (arith, one))

-- the clauses of the call of an order
call_clauses : (key : List ℕ) (home : HomeBoot) (o : Order) (i : Intake)
    → ((ordered_call key home.boot o i.now i.drawn).action ≡ o.action) × ((ordered_call key home.boot o i.now i.drawn).now ≡ i.now)
unfolding ordered_call
call_clauses key home o i = (refl, refl)

-- how often a kind is drawn, as the law of draws tells
abbrev Drawn : Type 0
Drawn = (o : Order) (drawn : List Draw) (kind : DrawKind) → AreDrawn o drawn → length (numbers_for kind drawn) ≡ count_of kind (drawn_for o)

pub admitted_by : (key : List ℕ) (home : HomeBoot) (o : Order) (i : Intake) (a : Admission)
    → ((o : Order) → count_of Request (drawn_for o) ≡ (if is_none o.number then 1 else 0))
    → ((o : Order) → count_of Read (drawn_for o) ≡ (if is_some o.cookie then 1 else 0))
    → ((o : Order) → (count_of Fresh (drawn_for o) ≡ 1) × (count_of Write (drawn_for o) ≡ 1))
    → Drawn → AreDrawn o i.drawn → a ≡ admission_of key home o i.now i.drawn → IsAdmittedBy key home o i a
admitted_by key home o i a request read others drawn are is =
    subst (λ x. IsAdmittedBy key home o i x) (sym is) (record {
      drawn = are;
      token = λ number e. cc;
      own = λ e. let one = one_number (numbers_for Request i.drawn) (drawn o i.drawn Request are ∙ request o ∙ ap (λ n. if is_none n then 1 else 0) e) in
          (slice_index (numbers_for Request i.drawn) 0, one, cc);
      call = λ value. refl;
      asks = (call_clauses key home o i).0;
      moment = (call_clauses key home o i).1;
      cookie = refl;
      read = λ cookie e. (slice_index (numbers_for Read i.drawn) 0, one_number (numbers_for Read i.drawn) (drawn o i.drawn Read are ∙ read o ∙ ap (λ n. if is_some n then 1 else 0) e), refl);
      write = (slice_index (numbers_for Write i.drawn) 0, one_number (numbers_for Write i.drawn) (drawn o i.drawn Write are ∙ (others o).1), refl);
    })

pub admitted : {R S : Type 0} (gives : Gives R) (looks : Looks S) (key : List ℕ) (home : HomeBoot) (head : Head) (random : R) (serials : S) (i : Intake) (r : R) (s : S) (a : Admission)
    → ((o : Order) → count_of Request (drawn_for o) ≡ (if is_none o.number then 1 else 0))
    → ((o : Order) → count_of Read (drawn_for o) ≡ (if is_some o.cookie then 1 else 0))
    → ((o : Order) → (count_of Fresh (drawn_for o) ≡ 1) × (count_of Write (drawn_for o) ≡ 1))
    → Drawn → TakesIn gives looks key home head random serials i r s → i.arrival ≡ Admitted a
    → (o : Order) × IsDecided key home.boot head (decided.Ordered o) × IsAdmittedBy key home o i a
admitted gives looks key home head random serials i r s a request read others drawn takes is = by takes.decision takes.decided takes.follows where
  by : (d : Decision) → IsDecided key home.boot head d → TakesInBy gives looks key home d random serials i r s
      → (o : Order) × IsDecided key home.boot head (decided.Ordered o) × IsAdmittedBy key home o i a
  by (decided.Refused why) decision follows = absurd (cc)
  by (decided.Ordered o) decision follows =
      let whole = subst (λ x. TakesInOrder gives looks key home o i.now random serials i.drawn x r s) is follows in
      (o, decision, admitted_by key home o i a request read others drawn whole.0.0 whole.1)

-- a number that was drawn is known
known : (boot : ℕ) (number : Option RequestNo) (drawn : List Draw) (serial : ℕ) → number ≡ None → numbers_for Request drawn ≡ serial ∷ []
    → known_request boot number drawn ≡ Some (record { boot = boot; serial = serial })
known boot (Some number) drawn serial bare is = absurd (cc)
known boot None [] serial bare is = absurd (cc)
known boot None (d ∷ ds) serial bare is = by (length (d ∷ ds) == 0) (ne_eqb (length (d ∷ ds)) 0 (λ none. omega (arith, none))) where
  by : (test : Bool) → test ≡ false
      → (if test then None else Some (request_of boot None (d ∷ ds))) ≡ Some (record { boot = boot; serial = serial })
  by true some = absurd (cc)
  by false some = ap (λ (n : ℕ). Some (record { boot = boot; serial = n })) (ap (λ (ns : List ℕ). slice_index ns 0) is)

unknown : (boot : ℕ) (number : Option RequestNo) (drawn : List Draw) → number ≡ None → drawn ≡ [] → known_request boot number drawn ≡ None
unknown boot (Some number) drawn bare is = absurd (cc)
unknown boot None [] bare is = refl
unknown boot None (d ∷ ds) bare is = absurd (cc)

cut_short_by : {R S : Type 0} (gives : Gives R) (looks : Looks S) (home : HomeBoot) (o : Order) (i : Intake) (random : R) (serials : S) (r : R) (s : S) (request : Option RequestNo) (seen : ℕ)
    → IsSpent looks gives (drawn_for o) serials random i.drawn seen s r → request ≡ known_request home.boot o.number i.drawn
    → IsCutShortBy home o i request seen
cut_short_by gives looks home o i random serials r s request seen spent is = record {
  cut = spent.cut;
  past = spent.past;
  token = λ number e. is ∙ ap (λ (n : Option RequestNo). known_request home.boot n i.drawn) e;
  own = λ serial bare one. is ∙ known home.boot o.number i.drawn serial bare one;
  unknown = λ bare none. is ∙ unknown home.boot o.number i.drawn bare none;
}

pub cut_short : {R S : Type 0} (gives : Gives R) (looks : Looks S) (key : List ℕ) (home : HomeBoot) (head : Head) (random : R) (serials : S) (i : Intake) (r : R) (s : S) (request : Option RequestNo) (seen : ℕ)
    → TakesIn gives looks key home head random serials i r s → i.arrival ≡ SerialsSpent request seen
    → (o : Order) × IsDecided key home.boot head (decided.Ordered o) × IsCutShortBy home o i request seen
cut_short gives looks key home head random serials i r s request seen takes is = by takes.decision takes.decided takes.follows where
  by : (d : Decision) → IsDecided key home.boot head d → TakesInBy gives looks key home d random serials i r s
      → (o : Order) × IsDecided key home.boot head (decided.Ordered o) × IsCutShortBy home o i request seen
  by (decided.Refused why) decision follows = absurd (cc)
  by (decided.Ordered o) decision follows =
      let short = subst (λ x. TakesInOrder gives looks key home o i.now random serials i.drawn x r s) is follows in
      (o, decision, cut_short_by gives looks home o i random serials r s request seen short.0 short.1)

pub told_refusal : {R S : Type 0} (gives : Gives R) (looks : Looks S) (key : List ℕ) (home : HomeBoot) (head : Head) (random : R) (serials : S) (i : Intake) (r : R) (s : S) (why : Refusal)
    → TakesIn gives looks key home head random serials i r s → i.arrival ≡ Refused why → IsDecided key home.boot head (decided.Refused why)
told_refusal gives looks key home head random serials i r s why takes is = by takes.decision takes.decided takes.follows where
  by : (d : Decision) → IsDecided key home.boot head d → TakesInBy gives looks key home d random serials i r s
      → IsDecided key home.boot head (decided.Refused why)
  by (decided.Refused other) decision follows =
      let told : i.arrival ≡ Refused other = follows.0 in
      let same : other ≡ why = cc in
      subst (λ (x : Refusal). IsDecided key home.boot head (decided.Refused x)) same decision
  by (decided.Ordered o) decision follows =
      absurd (subst (λ x. TakesInOrder gives looks key home o i.now random serials i.drawn x r s) is follows)
