-- In the end each that was asked is heard by its own events.
use Rattle.std.proofs.Common.{◌≡◌, ◌∙◌, ap, sym, refl, subst, ℕ, zero, suc, List, [], ◌∷◌, map, Option, Some, slice_get}
use Rattle.std.specs.Prelude.{option_map}
use Rattle.std.proofs.lemmas.Option.{slice_get-map}
use Rattle.crash_base.specs.declared.numbers.BrickNo.{BrickNo}
use Rattle.ssm_frames.specs.declared.frame.Frame.{Frame}
use Rattle.ssm_stub.specs.declared.ear.Stage.TheVariants.{Unasked}
use Rattle.ssm_stub.specs.declared.ear.Ear.{Ear}
use Rattle.ssm_stub.specs.declared.ear.Ear.TheVariants.{Open}
use Rattle.ssm_stub.specs.declared.event.Told.{Told}
use Rattle.ssm_stub.specs.declared.ask.Ask.{Ask}
use Rattle.ssm_stub.specs.declared.ask.Turn.{Turn}
use Rattle.ssm_stub.specs.Ears.{ear_after}
use Rattle.ssm_stub.specs.Turns.{none_asked}
use Rattle.ssm_stub.specs.Runs.{Machine, Fits, after}
use Rattle.ssm_stub.specs.Hearing.{AllDiffer, ear_machine, numbers, told_to, OwnAt}
use Rattle.ssm_stub.proofs.Concluding.{asks_after-keeps, none_asked-whos}
use Rattle.ssm_stub.proofs.OwnEvents.{Asking, own_events}

pub map_map : {X Y Z : Type 0} (g : Y → Z) (f : X → Y) (xs : List X) → map g (map f xs) ≡ map (λ x. g (f x)) xs
map_map g f [] = refl
map_map g f (x ∷ xs) = ap (λ rest. g (f x) ∷ rest) (map_map g f xs)

map_same : {X : Type 0} (f : X → X) (xs : List X) → ((i : ℕ) (x : X) → slice_get xs i ≡ Some x → f x ≡ x) → map f xs ≡ xs
map_same f [] h = refl
map_same f (x ∷ xs) h = ap (λ y. y ∷ map f xs) (h zero x refl) ∙ ap (λ rest. x ∷ rest) (map_same f xs (λ i y here. h (suc i) y here))

-- one that is asked with what its events lead to
abbrev pub ask_by : {W A : Type 0} → (W → BrickNo) → (W → Frame → Option A) → (BrickNo → List Told) → W → Ask W A
ask_by brick_of lawful told who = record { who = who; ear = ear_after (lawful who) (told (brick_of who)) }

-- Those that were asked, in the end: each is heard by its own events, which fit.
pub record Heard {W A : Type 0} (brick_of : W → BrickNo) (lawful : W → Frame → Option A) (told : BrickNo → List Told) (whos : List W) (ends : List (Ask W A)) : Type 0 where
  pub are : ends ≡ map (ask_by brick_of lawful told) whos
  pub fitting : (i : ℕ) (who : W) → slice_get whos i ≡ Some who → Fits (ear_machine (brick_of who) (lawful who)) (Open Unasked) (told (brick_of who))

module _ {S W A : Type 0} (m : Machine S) (asks : S → List (Ask W A)) (brick_of : W → BrickNo) (lawful : S → W → Frame → Option A) (turn : S → Option (Turn W)) (is : Asking m asks brick_of lawful turn) where
  keeps : (events : List Told) (s : S) → map (λ (a : Ask W A). a.who) (asks (after m s events)) ≡ map (λ (a : Ask W A). a.who) (asks s)
  keeps [] s = refl
  keeps (told ∷ events) s =
      keeps events (m.hear s told)
      ∙ (ap (map (λ (a : Ask W A). a.who)) (is.hear_is s told) ∙ asks_after-keeps (λ (w : W). w) (lawful s) told (asks s) (turn s))

  pub heard_by_events : (events : List Told) (s : S) (whos : List W) (told : BrickNo → List Told) → ((brick : BrickNo) → told_to m s events brick ≡ told brick) → asks s ≡ none_asked whos → AllDiffer (map (λ w. (brick_of w).0) whos) → Fits m s events → Heard brick_of (lawful s) told whos (asks (after m s events))
  heard_by_events events s whos told tells begins differ fitting =
      let ends = asks (after m s events) in
      let who : Ask W A → W = λ a. a.who in
      let mk : W → Ask W A = ask_by brick_of (lawful s) told in
      let fresh : W → Ask W A = λ w. record { who = w; ear = Open Unasked } in
      let number : W → ℕ = λ w. (brick_of w).0 in
      let kept : map who ends ≡ whos = keeps events s ∙ (ap (map who) begins ∙ none_asked-whos A whos) in
      let same_numbers : map number whos ≡ numbers brick_of (asks s) = sym (ap (numbers brick_of) begins ∙ map_map (λ (a : Ask W A). number a.who) fresh whos) in
      let apart : AllDiffer (numbers brick_of (asks s)) = subst AllDiffer same_numbers differ in
      let own_at : (i : ℕ) (w : W) → slice_get whos i ≡ Some w → OwnAt brick_of (lawful s) ends (told_to m s events) i (fresh w) = λ i w here.
      own_events m asks brick_of lawful turn is events s i (fresh w) apart fitting (ap (λ xs. slice_get xs i) begins ∙ (slice_get-map fresh whos i ∙ ap (option_map fresh) here)) in
      let each : (i : ℕ) (a : Ask W A) → slice_get ends i ≡ Some a → mk a.who ≡ a = λ i a here.
      let there : slice_get whos i ≡ Some a.who = ap (λ ws. slice_get ws i) (sym kept) ∙ (slice_get-map who ends i ∙ ap (option_map who) here) in
      let own = own_at i a.who there in
      let same : a ≡ record { who = a.who; ear = own.end } = (let o : Some a ≡ Some (record { who = a.who; ear = own.end }) = sym here ∙ own.here in cc) in
      let put : Ear A → Ask W A = λ ear. record { who = a.who; ear = ear } in
      sym (same ∙ ap put (own.own.ends ∙ ap (ear_after (lawful s a.who)) (tells (brick_of a.who)))) in
      record {
        are = sym (map_same (λ a. mk a.who) ends each) ∙ (sym (map_map mk who ends) ∙ ap (map mk) kept);
        fitting = λ i w here.
            (let FitsIt : List Told → Type 0 = λ es. Fits (ear_machine (brick_of w) (lawful s w)) (Open Unasked) es in subst FitsIt (tells (brick_of w)) (own_at i w here).own.fitting);
      }
