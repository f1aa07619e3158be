-- Turns that stop inside a run write the beginning of what turns write with the same lines that go on.
use Rattle.std.proofs.Common.{◌≡◌, ◌⊎◌, inl, inr, ℕ, ◌+◌, ◌^◌, ◌-◌, ◌<◌, Bool, true, false, if◌then◌else◌, List, [], ◌∷◌, ◌++◌, length, Some, All, refl, sym, ap, ◌∙◌, subst, append_assoc}
use Rattle.std.specs.Prelude.{nat_lt}
use Rattle.outside.specs.Keeper.{KeeperTold}
use Rattle.scenario_text.specs.declared.line.TheConstants.{MAX_LINE_BYTES}
use Rattle.scenario_engine.specs.Engine.{Replies}
use Rattle.scenario_engine.specs.KeeperCalls.{KeeperCall, TellsCalls}
use Rattle.scenario_engine.specs.State.{State, Outcome, RefusedIn, DoneTo, UnstartedIn, UnderWayIn}
use Rattle.scenario_engine.specs.Transcript.{Turn, lines_in, first, turn_outcome, turn_calls, calls_from, transcript, End, end_from, RefusedAt, TooLong, Unstarted, UnderWay, IsAnswered}
use Rattle.scenario_engine.proofs.Deciding.{Decided, FailsAlike, IsThere, Twins, heads_same, long_outcome, replied, tails_same, turn_decided}
use Rattle.scenario_engine.proofs.SeatChanges.{ReplyLaw}

abbrev pub Begins : List ℕ → List ℕ → Type 0
Begins text whole = (rest : List ℕ) × (whole ≡ text ++ rest)

-- what is left after a turn, by its outcome

abbrev text_after : List Turn → Outcome → List ℕ
text_after more outcome = elim outcome [
  | RefusedIn t ↦ []
  | DoneTo t text ↦ text ++ transcript t more
  | UnstartedIn t cause ↦ []
  | UnderWayIn t ↦ []
]

abbrev calls_after : List Turn → Outcome → List KeeperCall
calls_after more outcome = elim outcome [
  | RefusedIn t ↦ []
  | DoneTo t text ↦ calls_from t more
  | UnstartedIn t cause ↦ []
  | UnderWayIn t ↦ []
]

abbrev end_after : ℕ → List Turn → Outcome → End
end_after n more outcome = elim outcome [
  | RefusedIn t ↦ RefusedAt t n
  | DoneTo t text ↦ end_from t (n + 1) more
  | UnstartedIn t cause ↦ Unstarted t cause
  | UnderWayIn t ↦ UnderWay t n
]

answered_there : (n : ℕ) (more : List Turn) (outcome : Outcome) → IsAnswered (end_after n more outcome) → IsThere outcome
answered_there n more (RefusedIn t) h = tt
answered_there n more (DoneTo t text) h = tt
answered_there n more (UnstartedIn t cause) h = tt
answered_there n more (UnderWayIn t) h = h

there_or_under_way : (outcome : Outcome) → IsThere outcome ⊎ ((t : State) × (outcome ≡ UnderWayIn t))
there_or_under_way (RefusedIn t) = inl tt
there_or_under_way (DoneTo t text) = inl tt
there_or_under_way (UnstartedIn t cause) = inl tt
there_or_under_way (UnderWayIn t) = inr (t, refl)

module _ (unasked : ReplyLaw) where
  next_begins : (s : State) (n : ℕ) (turn : Turn) (other : Replies) (turns others : List Turn) (v a b : KeeperTold)
      → ((t : State) (w : KeeperTold) → IsAnswered (end_from t (n + 1) turns) → Twins (calls_from t turns) (calls_from t others) w a b → Begins (transcript t others) (transcript t turns))
      → IsAnswered (end_from s n (turn ∷ turns)) → Twins (calls_from s (turn ∷ turns)) (calls_from s (replied turn other ∷ others)) v a b → Begins (transcript s (replied turn other ∷ others)) (transcript s (turn ∷ turns))
  next_begins s n turn other turns others v a b later hx twins = go (nat_lt MAX_LINE_BYTES (length turn.line)) refl hx twins
    where
      short : (outcome : Outcome) (w : KeeperTold) → IsAnswered (end_after n turns outcome) → Twins (calls_after turns outcome) (calls_after others outcome) w a b → Begins (text_after others outcome) (text_after turns outcome)
      short (RefusedIn t) w hx both = ([], refl)
      short (DoneTo t text) w hx both =
          let rest : Begins (transcript t others) (transcript t turns) = later t w hx both in
          (rest.0, ap (λ more. text ++ more) rest.1 ∙ sym (append_assoc text (transcript t others) rest.0))
      short (UnstartedIn t cause) w hx both = ([], refl)
      short (UnderWayIn t) w hx both = ([], refl)

      reached : (one two : Outcome) → IsAnswered (end_after n turns one) → Decided one two (calls_after turns one) (calls_after others two) a b → Begins (text_after others two) (text_after turns one)
      reached one two hx decided =
          let P : Outcome → Type 0 = λ o. Twins (calls_after turns one) (calls_after others o) decided.told a b → Begins (text_after others o) (text_after turns one) in
          let here : P one = λ both. short one decided.told hx both in
          subst P decided.same here decided.twins

      go : (long : Bool) → nat_lt MAX_LINE_BYTES (length turn.line) ≡ long
          → IsAnswered (if long then TooLong s n else end_after n turns (turn_outcome s turn))
          → Twins (if long then [] else (turn_calls s turn ++ calls_after turns (turn_outcome s turn))) (if long then [] else (turn_calls s (replied turn other) ++ calls_after others (turn_outcome s (replied turn other)))) v a b
          → Begins (text_after others (turn_outcome s (replied turn other))) (text_after turns (turn_outcome s turn))
      go true is hx both =
          let one : turn_outcome s turn ≡ RefusedIn s = long_outcome unasked s turn is in
          let two : turn_outcome s (replied turn other) ≡ RefusedIn s = long_outcome unasked s (replied turn other) is in
          rw (one, two) ([], refl)
      go false is hx both = elim (there_or_under_way (turn_outcome s (replied turn other))) [
        | inl there ↦ reached (turn_outcome s turn) (turn_outcome s (replied turn other)) hx
            (turn_decided unasked s turn other (calls_after turns (turn_outcome s turn)) (calls_after others (turn_outcome s (replied turn other))) v a b (answered_there n turns (turn_outcome s turn) hx) there both)
        | inr way ↦ (text_after turns (turn_outcome s turn), ap (λ (o : Outcome). text_after others o ++ text_after turns (turn_outcome s turn)) (sym way.1))
      ]

  begins : (s : State) (n : ℕ) (turns others : List Turn) (v a b : KeeperTold) → lines_in turns ≡ lines_in others
      → IsAnswered (end_from s n turns) → Twins (calls_from s turns) (calls_from s others) v a b → Begins (transcript s others) (transcript s turns)
  begins s n [] [] v a b same hx twins = ([], refl)
  begins s n [] (other ∷ others) v a b same hx twins = absurd (cc)
  begins s n (turn ∷ turns) [] v a b same hx twins = absurd (cc)
  begins s n (turn ∷ turns) (other ∷ others) v a b same hx twins =
      let P : List ℕ → Type 0 = λ line. Twins (calls_from s (turn ∷ turns)) (calls_from s (record { line = line; replies = other.replies } ∷ others)) v a b
      → Begins (transcript s (record { line = line; replies = other.replies } ∷ others)) (transcript s (turn ∷ turns)) in
      let line : turn.line ≡ other.line = heads_same unasked turn.line other.line (lines_in turns) (lines_in others) same in
      let rest : lines_in turns ≡ lines_in others = tails_same unasked turn.line other.line (lines_in turns) (lines_in others) same in
      let here : P turn.line = next_begins s n turn other.replies turns others v a b (λ t w hx both. begins t (n + 1) turns others w a b rest hx both) hx in
      subst P line here twins

  pub turns_begin : (turns others : List Turn) (t a b : KeeperTold) (later : List ℕ) → lines_in turns ≡ lines_in others → IsAnswered (end_from first 1 turns)
      → TellsCalls (calls_from first turns) (Some t) (Some a) → TellsCalls (calls_from first others) (Some t) (Some b)
      → a.failed ≡ b.failed ++ later → All (λ (call : ℕ). b.calls < call) later → a.calls < 2 ^ 64 - 1
      → (rest : List ℕ) × (transcript first turns ≡ transcript first others ++ rest)
  turns_begin turns others t a b later same hx left right failed past few =
      let alike : FailsAlike a b = record { more = later; is = failed; later = past } in
      begins first 1 turns others t a b same hx (record { left = left; right = right; failed = alike; few = few })
