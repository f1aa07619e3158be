-- What a seat of words has drawn, for the requests of a connection.
use Rattle.std.specs.Prelude.{◌≢◌, All, drop, filter, is_none, length, map, not, option_to_list, take, IfSome, Option, Some}
use Rattle.std.proofs.Common.{◌≡◌, ◌⊎◌, inl, inr, ℕ, Bool, true, false, if◌then◌else◌, List, [], ◌∷◌, ◌++◌, None, ◌≤◌, arith, refl, sym, ap, ◌∙◌, subst, append-nil, true≢false}
use Rattle.std.proofs.lemmas.List.{append_assoc, length-append, map-append, take-append-drop, take-append-le, take_all}
use Rattle.std.proofs.lemmas.List.Elements.{All-push, All-weaker, filter-append}
use Rattle.request_decisions.specs.Drawing.{DrawsOne, HasDrawn}
use Rattle.request_decisions.specs.Draws.{is_serial}
use Rattle.request_decisions.specs.declared.draws.Draw.{Draw}
use Rattle.request_intake.specs.Intakes.{Gives, serials_in}
use Rattle.served_connections.specs.Spent.{IsFoundSpent}
use Rattle.shared_words.specs.Words.{WordSeatValue}
use Rattle.seat_serials.specs.Drawing.{HasDrawnOn, SeatLooks}
use Rattle.connection_server.specs.Stands.{DrewAtLeast, GivesAll, with_drawn, words_in}
use Rattle.connection_server.specs.declared.served.ServedEnd.{ServedEnd}
use Rattle.connection_server.specs.declared.served.ServedEnd.TheVariants.{OutOfMemory}

serials_append : (xs ys : List Draw) → serials_in (xs ++ ys) ≡ serials_in xs ++ serials_in ys
serials_append xs ys =
    ap (λ (l : List Draw). map (λ (d : Draw). d.number) l) (filter-append (λ (d : Draw). is_serial d.kind) xs ys)
    ∙ map-append (λ (d : Draw). d.number) (filter (λ (d : Draw). is_serial d.kind) xs) (filter (λ (d : Draw). is_serial d.kind) ys)

words_append : (xs ys : List Draw) → words_in (xs ++ ys) ≡ words_in xs ++ words_in ys
words_append xs ys =
    ap (λ (l : List Draw). map (λ (d : Draw). d.number) l) (filter-append (λ (d : Draw). not (is_serial d.kind)) xs ys)
    ∙ map-append (λ (d : Draw). d.number) (filter (λ (d : Draw). not (is_serial d.kind)) xs) (filter (λ (d : Draw). not (is_serial d.kind)) ys)

-- words that are given behind others
pub given_behind : (begun now : List ℕ) (drawn more : List Draw) → now ≡ begun ++ words_in drawn → now ++ words_in more ≡ begun ++ words_in (drawn ++ more)
given_behind begun now drawn more is =
    ap (λ (l : List ℕ). l ++ words_in more) is ∙ append_assoc begun (words_in drawn) (words_in more) ∙ ap (λ (l : List ℕ). begun ++ l) (sym (words_append drawn more))

-- numbers that are drawn behind others
pub drawn_behind : (seat mid : WordSeatValue) (drawn more : List Draw) (seen : ℕ) → mid ≡ with_drawn seat drawn mid.seen → with_drawn mid more seen ≡ with_drawn seat (drawn ++ more) seen
drawn_behind seat mid drawn more seen is =
    subst (λ (m : WordSeatValue). with_drawn m more seen ≡ with_drawn seat (drawn ++ more) seen) (sym is)
    (ap (λ (l : List ℕ). record seat { drawn = l; seen = seen }) (append_assoc seat.drawn (serials_in drawn) (serials_in more) ∙ ap (λ (l : List ℕ). seat.drawn ++ l) (sym (serials_append drawn more))))

-- what goes on has not ended for want of memory
pub goes_on : None ≢ Some OutOfMemory
goes_on same = true≢false (ap (λ (end : Option ServedEnd). is_none end) same)

-- nothing is drawn with a seat
pub drew_none : (seat : WordSeatValue) → seat ≡ with_drawn seat [] seat.seen
drew_none seat = ap (λ (l : List ℕ). record seat { drawn = l }) (sym (append-nil seat.drawn))

-- a seat with which nothing was drawn
pub drawn_none : (seat : WordSeatValue) → HasDrawnOn seat seat
drawn_none seat = (refl, refl, refl, omega arith, take_all (length seat.drawn) seat.drawn (omega arith))

-- what was drawn with a seat begins what it has drawn
drawn_is : (old new : WordSeatValue) → HasDrawnOn old new → new.drawn ≡ old.drawn ++ drop (length old.drawn) new.drawn
drawn_is old new on = sym (take-append-drop (length old.drawn) new.drawn) ∙ ap (λ (l : List ℕ). l ++ drop (length old.drawn) new.drawn) on.4

-- a seat with which numbers were drawn, and then more
pub drawn_on : (first mid last : WordSeatValue) → HasDrawnOn first mid → HasDrawnOn mid last → HasDrawnOn first last
drawn_on first mid last before on = (on.0 ∙ before.0, on.1 ∙ before.1, on.2 ∙ before.2, omega (arith, before.3, on.3), begins) where
  longer : length first.drawn ≤ length mid.drawn
  longer =
      let is = ap length (drawn_is first mid before) ∙ length-append first.drawn (drop (length first.drawn) mid.drawn) in
      omega (arith, is)

  begins : take (length first.drawn) last.drawn ≡ first.drawn
  begins =
      ap (take (length first.drawn)) (drawn_is mid last on) ∙ take-append-le (length first.drawn) mid.drawn (drop (length mid.drawn) last.drawn) longer
      ∙ before.4

-- the serial numbers of a course were drawn, and no more
pub drew_just : (begun now : WordSeatValue) (drawn : List Draw) → now ≡ with_drawn begun drawn now.seen → DrewAtLeast begun drawn now
drew_just begun now drawn is =
    ([], ap (λ (w : WordSeatValue). w.drawn) is ∙ ap (λ (l : List ℕ). begun.drawn ++ l) (sym (append-nil (serials_in drawn))))

-- they were drawn, and then more
pub drew_on : (begun now next : WordSeatValue) (drawn : List Draw) → now ≡ with_drawn begun drawn now.seen → HasDrawnOn now next → DrewAtLeast begun drawn next
drew_on begun now next drawn is on = (
  drop (length now.drawn) next.drawn,
  drawn_is now next on ∙ ap (λ (w : WordSeatValue). w.drawn ++ drop (length now.drawn) next.drawn) is
      ∙ append_assoc begun.drawn (serials_in drawn) (drop (length now.drawn) next.drawn),
)

-- what was seen is seen by who has seen more
pub seen_on : (old new : ℕ) (looked : List ℕ) → old ≤ new → All (λ (serial : ℕ). serial ≤ old) looked → All (λ (serial : ℕ). serial ≤ new) looked
seen_on old new looked on seen = All-weaker (λ (serial : ℕ). serial ≤ old) (λ (serial : ℕ). serial ≤ new) (λ serial s. omega (arith, on, s)) looked seen

module _ {R : Type 0} (gives : Gives R) where
  -- one number is drawn
  one : (serial : Bool) (d : Draw) → is_serial d.kind ≡ serial → (s : WordSeatValue) (r : R) (t : WordSeatValue) (q : R) → DrawsOne SeatLooks gives serial s r d.number t q → t ≡ with_drawn s (d ∷ []) t.seen
  one true d kind s r t q drew =
      subst (λ (x : WordSeatValue). x ≡ with_drawn s (d ∷ []) x.seen) (sym drew.2.3)
      (ap (λ (l : List ℕ). record s { drawn = s.drawn ++ l; seen = d.number }) (sym (counted d kind)))
    where
      counted : (x : Draw) → is_serial x.kind ≡ true → serials_in (x ∷ []) ≡ x.number ∷ []
      counted x is = ap (λ (b : Bool). map (λ (y : Draw). y.number) (if b then x ∷ [] else [])) is
  one false d kind s r t q drew =
      subst (λ (x : WordSeatValue). x ≡ with_drawn s (d ∷ []) x.seen) (sym drew.1)
      (drew_none s ∙ ap (λ (l : List ℕ). record s { drawn = s.drawn ++ l }) (sym (left_out d kind)))
    where
      left_out : (x : Draw) → is_serial x.kind ≡ false → serials_in (x ∷ []) ≡ []
      left_out x is = ap (λ (b : Bool). map (λ (y : Draw). y.number) (if b then x ∷ [] else [])) is

  drew : (s : WordSeatValue) (r : R) (drawn : List Draw) (t : WordSeatValue) (q : R) → HasDrawn SeatLooks gives s r drawn t q → t ≡ with_drawn s drawn t.seen
  drew s r [] t q h = subst (λ (x : WordSeatValue). x ≡ with_drawn s [] x.seen) (sym h.0) (drew_none s)
  drew s r (d ∷ ds) t q h = drew h.0 h.1 ds t q h.3 ∙ drawn_behind s h.0 (d ∷ []) ds t.seen (one (is_serial d.kind) d refl s r h.0 h.1 h.2)

  -- a draw before others, whose word is given where it is one
  gave_one : (serial : Bool) (d : Draw) (ds : List Draw) → is_serial d.kind ≡ serial → (s : WordSeatValue) (r : R) (t : WordSeatValue) (mid q : R) → DrawsOne SeatLooks gives serial s r d.number t mid → GivesAll gives mid (words_in ds) q
      → GivesAll gives r (words_in (d ∷ ds)) q
  gave_one serial d ds kind s r t mid q one rest = subst (λ (l : List ℕ). GivesAll gives r l q) (sym (ap words kind)) (by serial one) where
    words : Bool → List ℕ
    words b = map (λ (x : Draw). x.number) (if not b then d ∷ filter (λ (x : Draw). not (is_serial x.kind)) ds else filter (λ (x : Draw). not (is_serial x.kind)) ds)

    by : (b : Bool) → DrawsOne SeatLooks gives b s r d.number t mid → GivesAll gives r (words b) q
    by true drawn = subst (λ (x : R). GivesAll gives x (words_in ds) q) drawn.3 rest
    by false drawn = (mid, drawn.0, rest)

  -- the words among what is drawn are given
  gave : (s : WordSeatValue) (r : R) (drawn : List Draw) (t : WordSeatValue) (q : R) → HasDrawn SeatLooks gives s r drawn t q → GivesAll gives r (words_in drawn) q
  gave s r [] t q h = sym h.1
  gave s r (d ∷ ds) t q h = gave_one (is_serial d.kind) d ds refl s r h.0 h.1 q h.2 (gave h.0 h.1 ds t q h.3)

  -- words in a row, and more of them
  given_on : (first : R) (words : List ℕ) (mid : R) (more : List ℕ) (last : R) → GivesAll gives first words mid → GivesAll gives mid more last → GivesAll gives first (words ++ more) last
  given_on first [] mid more last h rest = subst (λ (r : R). GivesAll gives r more last) (sym h) rest
  given_on first (word ∷ words) mid more last (next, here, h) rest = (next, here, given_on next words mid more last h rest)

  -- behind the words that were given, those of a draw are
  pub gave_at_last : (first : R) (before : List ℕ) (r : R) (s : WordSeatValue) (more : List Draw) (t : WordSeatValue) (q : R) → GivesAll gives first before r → HasDrawn SeatLooks gives s r more t q → GivesAll gives first (before ++ words_in more) q
  gave_at_last first before r s more t q was h = given_on first before r (words_in more) q was (gave s r more t q h)

  -- and a number that is spent may be looked at behind them
  pub drew_at_last : (seat : WordSeatValue) (before more : List Draw) (s : WordSeatValue) (r : R) (mid : WordSeatValue) (q : R) (t : WordSeatValue) → s ≡ with_drawn seat before s.seen → HasDrawn SeatLooks gives s r more mid q
      → (t ≡ mid) ⊎ ((seen : ℕ) × SeatLooks mid seen None t) → t ≡ with_drawn seat (before ++ more) t.seen
  drew_at_last seat before more s r mid q t was h (inl same) =
      subst (λ (x : WordSeatValue). x ≡ with_drawn seat (before ++ more) x.seen) (sym same)
      (drew s r more mid q h ∙ drawn_behind seat s before more mid.seen was)
  drew_at_last seat before more s r mid q t was h (inr looked) =
      subst (λ (x : WordSeatValue). x ≡ with_drawn seat (before ++ more) x.seen) (sym looked.1.1)
      (ap (λ (x : WordSeatValue). record x { seen = looked.0 }) (drew s r more mid q h ∙ drawn_behind seat s before more mid.seen was))

  -- a seat has seen the number that was found spent
  pub spent_seen : (s : WordSeatValue) (r : R) (looked : List ℕ) (spent : Option ℕ) (q : R) (t : WordSeatValue) → s.seen ≤ t.seen → IfSome spent (λ seen. IsFoundSpent gives SeatLooks r s seen q t)
      → All (λ (serial : ℕ). serial ≤ s.seen) looked → All (λ (serial : ℕ). serial ≤ t.seen) (looked ++ option_to_list spent)
  spent_seen s r looked None q t on found seen = subst (λ (l : List ℕ). All (λ (serial : ℕ). serial ≤ t.seen) l) (sym (append-nil looked)) (seen_on s.seen t.seen looked on seen)
  spent_seen s r looked (Some serial) q t on found seen =
      let is : t.seen ≡ serial = ap (λ (w : WordSeatValue). w.seen) found.looked.1 in
      All-push (λ (n : ℕ). n ≤ t.seen) looked serial (seen_on s.seen t.seen looked on seen) (omega (arith, is))
