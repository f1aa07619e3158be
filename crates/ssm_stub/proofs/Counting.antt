-- Events are counted, those of one brick among those of all.
use Rattle.std.proofs.Common.{arith, ◌≡◌, ◌≢◌, ◌∙◌, ap, sym, refl, inl, inr, ℕ, ◌+◌, ◌*◌, ◌≤◌, ◌==◌, Bool, true, false, cond, if◌then◌else◌, List, [], ◌∷◌, ◌++◌, length, map, All, Option, Some, None}
use Rattle.std.specs.List.{count_by, cons_option}
use Rattle.std.proofs.lemmas.Bool.{eqb-true}
use Rattle.std.proofs.lemmas.List.Elements.{All-head, All-tail}
use Rattle.std.proofs.lemmas.List.Sums.{sum_by-cons}
use Rattle.crash_base.specs.declared.numbers.BrickNo.{BrickNo}
use Rattle.outside.specs.declared.link.LinkEvent.{LinkEvent}
use Rattle.outside.specs.declared.link.LinkEvent.TheVariants.{Sends, SendsInSilence, Gets, HearsSilence, WantsToSend, WantsToReceive}
use Rattle.outside.specs.Link.{is_silence, is_silence_of, is_frame}
use Rattle.ssm_frames.specs.declared.frame.Frame.{Frame}
use Rattle.ssm_stub.specs.declared.ear.Outcome.TheVariants.{Silent, Strayed}
use Rattle.ssm_stub.specs.declared.event.Told.{Told}
use Rattle.ssm_stub.specs.declared.event.Told.TheVariants.{Sent, Came, Silent as NoneCame}
use Rattle.ssm_stub.specs.Hearing.{about, all_about, EndsIn}

-- so many for each that passes
unfoldable pub many : {X : Type 0} → ℕ → (X → Bool) → List X → ℕ
many k p [] = 0
many k p (x ∷ xs) = cond (p x) k 0 + many k p xs

-- so many for one that passes
unfoldable pub weight : {X : Type 0} → ℕ → (X → Bool) → Option X → ℕ
weight k p None = 0
weight k p (Some x) = cond (p x) k 0

unfoldable pub total : {X : Type 0} → (X → ℕ) → List X → ℕ
total f [] = 0
total f (x ∷ xs) = f x + total f xs

pub count_is : {X : Type 0} (p : X → Bool) (xs : List X) → count_by p xs ≡ many 1 p xs
unfolding many
count_is p [] = refl
count_is p (x ∷ xs) = sum_by-cons (λ y. cond (p y) 1 0) x xs ∙ ap (λ n. cond (p x) 1 0 + n) (count_is p xs)

one_of_64 : (b : Bool) (n m : ℕ) → 64 * n ≡ m → 64 * (cond b 1 0 + n) ≡ cond b 64 0 + m
one_of_64 true n m h = omega arith
one_of_64 false n m h = omega arith

pub count_of_64 : {X : Type 0} (p : X → Bool) (xs : List X) → 64 * count_by p xs ≡ many 64 p xs
unfolding many
count_of_64 p [] = refl
count_of_64 p (x ∷ xs) =
    ap (λ n. 64 * n) (sum_by-cons (λ y. cond (p y) 1 0) x xs) ∙ one_of_64 (p x) (count_by p xs) (many 64 p xs) (count_of_64 p xs)

pub many_more : {X : Type 0} (k : ℕ) (p : X → Bool) (o : Option X) (xs : List X) → many k p (cons_option o xs) ≡ weight k p o + many k p xs
unfolding many weight
many_more k p None xs = omega arith
many_more k p (Some x) xs = refl

-- whether the brick was silent in what it was told
unfoldable pub is_hush : Told → Bool
is_hush Sent = false
is_hush (Came frame) = false
is_hush NoneCame = true

-- whether a frame came in what the brick was told
unfoldable pub is_came : Told → Bool
is_came Sent = false
is_came (Came frame) = true
is_came NoneCame = false

-- whether a frame came from the brick of this number in an event
unfoldable pub is_frame_of : ℕ → LinkEvent → Bool
is_frame_of brick (Sends to frame) = false
is_frame_of brick (SendsInSilence to frame) = false
is_frame_of brick (Gets from frame) = from.0 == brick
is_frame_of brick (HearsSilence from) = false
is_frame_of brick (WantsToSend to frame) = false
is_frame_of brick (WantsToReceive from) = false

never : (k : ℕ) (t : Told → Bool) (b : Bool) (told : Told) → t told ≡ false → weight k t (if b then Some told else None) ≡ 0
unfolding weight
never k t true told h = ap (λ x. cond x k 0) h
never k t false told h = refl

always : (k : ℕ) (t : Told → Bool) (b : Bool) (told : Told) → t told ≡ true → weight k t (if b then Some told else None) ≡ cond b k 0
unfolding weight
always k t true told h = ap (λ x. cond x k 0) h
always k t false told h = refl

hush_about : (brick : BrickNo) (event : LinkEvent) → weight 1 is_hush (about brick event) ≡ cond (is_silence_of brick.0 event) 1 0
unfolding weight is_hush
hush_about brick (Sends to frame) = never 1 is_hush (to.0 == brick.0) Sent refl
hush_about brick (SendsInSilence to frame) = always 1 is_hush (to.0 == brick.0) NoneCame refl
hush_about brick (Gets from frame) = never 1 is_hush (from.0 == brick.0) _ refl
hush_about brick (HearsSilence from) = always 1 is_hush (from.0 == brick.0) NoneCame refl
hush_about brick (WantsToSend to frame) = refl
hush_about brick (WantsToReceive from) = refl

came_about : (brick : BrickNo) (event : LinkEvent) → weight 1 is_came (about brick event) ≡ cond (is_frame_of brick.0 event) 1 0
unfolding weight is_came is_frame_of
came_about brick (Sends to frame) = never 1 is_came (to.0 == brick.0) Sent refl
came_about brick (SendsInSilence to frame) = never 1 is_came (to.0 == brick.0) NoneCame refl
came_about brick (Gets from frame) = always 1 is_came (from.0 == brick.0) _ refl
came_about brick (HearsSilence from) = never 1 is_came (from.0 == brick.0) NoneCame refl
came_about brick (WantsToSend to frame) = refl
came_about brick (WantsToReceive from) = refl

all_counted : (t : Told → Bool) (l : LinkEvent → Bool) (brick : BrickNo) → ((event : LinkEvent) → weight 1 t (about brick event) ≡ cond (l event) 1 0) → (calls : List LinkEvent) → many 1 t (all_about brick calls) ≡ many 1 l calls
unfolding many
all_counted t l brick h [] = refl
all_counted t l brick h (event ∷ calls) =
    many_more 1 t (about brick event) (all_about brick calls)
    ∙ (ap (λ n. n + many 1 t (all_about brick calls)) (h event) ∙ ap (λ n. cond (l event) 1 0 + n) (all_counted t l brick h calls))

pub hushes_about : (brick : BrickNo) (calls : List LinkEvent) → many 1 is_hush (all_about brick calls) ≡ many 1 (is_silence_of brick.0) calls
hushes_about brick calls = all_counted is_hush (is_silence_of brick.0) brick (hush_about brick) calls

pub frames_about : (brick : BrickNo) (calls : List LinkEvent) → many 1 is_came (all_about brick calls) ≡ many 1 (is_frame_of brick.0) calls
frames_about brick calls = all_counted is_came (is_frame_of brick.0) brick (came_about brick) calls

hush_last : (strays : List (Option Frame)) → 1 ≤ many 1 is_hush (map Came strays ++ NoneCame ∷ [])
unfolding many is_hush
hush_last [] = omega arith
hush_last (frame ∷ strays) = (let later = hush_last strays in omega arith)

-- a brick that was silent was told a silence
pub hush_in : {A : Type 0} (lawful : Frame → Option A) (events : List Told) → EndsIn lawful events Silent → 1 ≤ many 1 is_hush events
unfolding many is_hush
hush_in lawful events (inl alone) = rw alone (omega arith)
hush_in lawful events (inr (strays, all, few, parts)) = rw parts (let last = hush_last strays in omega arith)

came_all : (strays : List (Option Frame)) → many 1 is_came (map Came strays) ≡ length strays
unfolding many is_came
came_all [] = refl
came_all (frame ∷ strays) = (let later = came_all strays in omega arith)

-- a brick that strayed was told 64 frames
pub came_in : {A : Type 0} (lawful : Frame → Option A) (events : List Told) → EndsIn lawful events Strayed → 64 ≤ many 1 is_came events
unfolding many is_came
came_in lawful events (strays, all, count, parts) = rw parts (let came = came_all strays in omega arith)

-- no two of these have one number
unfoldable pub Distinct : {X : Type 0} → (X → ℕ) → List X → Type 0
Distinct number [] = Unit {0}
Distinct number (x ∷ xs) = All (λ y. number x ≢ number y) xs × Distinct number xs

total_plus : {X : Type 0} (f g : X → ℕ) (xs : List X) → total (λ x. f x + g x) xs ≡ total f xs + total g xs
unfolding total
total_plus f g [] = refl
total_plus f g (x ∷ xs) = (let rest = total_plus f g xs in omega arith)

total_zero : {X : Type 0} (xs : List X) → total (λ (x : X). 0) xs ≡ 0
unfolding total
total_zero [] = refl
total_zero (x ∷ xs) = (let rest = total_zero xs in omega arith)

-- events of a kind, each of which is of one brick at most
module _ (p : ℕ → LinkEvent → Bool) (q : LinkEvent → Bool) (inside : (n : ℕ) (e : LinkEvent) → p n e ≡ true → q e ≡ true) (alone : (n m : ℕ) (e : LinkEvent) → p n e ≡ true → p m e ≡ true → n ≡ m) where
  none_of : {X : Type 0} (number : X → ℕ) (n : ℕ) (e : LinkEvent) (xs : List X) → p n e ≡ true → All (λ x. n ≢ number x) xs → total (λ x. cond (p (number x) e) 1 0) xs ≡ 0
  unfolding total
  none_of number n e [] h all = refl
  none_of {X} number n e (x ∷ xs) h all = here (p (number x) e) refl (none_of number n e xs h (All-tail (λ y. n ≢ number y) x xs all)) where
    here : (b : Bool) → p (number x) e ≡ b → total (λ y. cond (p (number y) e) 1 0) xs ≡ 0 → cond b 1 0 + total (λ y. cond (p (number y) e) 1 0) xs ≡ 0
    here true is rest = absurd (All-head (λ y. n ≢ number y) x xs all (alone n (number x) e h is))
    here false is rest = omega arith

  at_most : {X : Type 0} (number : X → ℕ) (e : LinkEvent) (xs : List X) → Distinct number xs → total (λ x. cond (p (number x) e) 1 0) xs ≤ cond (q e) 1 0
  unfolding total Distinct
  at_most number e [] h = omega arith
  at_most {X} number e (x ∷ xs) (first, rest) = here (p (number x) e) refl (at_most number e xs rest) where
    here : (b : Bool) → p (number x) e ≡ b → total (λ y. cond (p (number y) e) 1 0) xs ≤ cond (q e) 1 0 → cond b 1 0 + total (λ y. cond (p (number y) e) 1 0) xs ≤ cond (q e) 1 0
    here true is later =
        let none = none_of number (number x) e xs is first in
        let weigh : Bool → ℕ = λ b. cond b 1 0 in
        let one : weigh (q e) ≡ 1 = ap weigh (inside (number x) e is) in
        omega arith
    here false is later = omega arith

  pub within : {X : Type 0} (number : X → ℕ) (xs : List X) → Distinct number xs → (calls : List LinkEvent) → total (λ x. many 1 (p (number x)) calls) xs ≤ many 1 q calls
  unfolding many
  within number xs h [] = (let none = total_zero xs in omega arith)
  within number xs h (e ∷ calls) =
      let split = total_plus (λ x. cond (p (number x) e) 1 0) (λ x. many 1 (p (number x)) calls) xs in
      let one = at_most number e xs h in
      let rest = within number xs h calls in
      omega arith

silence_inside : (n : ℕ) (e : LinkEvent) → is_silence_of n e ≡ true → is_silence e ≡ true
silence_inside n (Sends to frame) h = cc
silence_inside n (SendsInSilence to frame) h = refl
silence_inside n (Gets from frame) h = cc
silence_inside n (HearsSilence from) h = refl
silence_inside n (WantsToSend to frame) h = cc
silence_inside n (WantsToReceive from) h = cc

silence_alone : (n m : ℕ) (e : LinkEvent) → is_silence_of n e ≡ true → is_silence_of m e ≡ true → n ≡ m
silence_alone n m (Sends to frame) h k = absurd cc
silence_alone n m (SendsInSilence to frame) h k = sym (eqb-true to.0 n h) ∙ eqb-true to.0 m k
silence_alone n m (Gets from frame) h k = absurd cc
silence_alone n m (HearsSilence from) h k = sym (eqb-true from.0 n h) ∙ eqb-true from.0 m k
silence_alone n m (WantsToSend to frame) h k = absurd cc
silence_alone n m (WantsToReceive from) h k = absurd cc

frame_inside : (n : ℕ) (e : LinkEvent) → is_frame_of n e ≡ true → is_frame e ≡ true
unfolding is_frame_of
frame_inside n (Sends to frame) h = cc
frame_inside n (SendsInSilence to frame) h = cc
frame_inside n (Gets from frame) h = refl
frame_inside n (HearsSilence from) h = cc
frame_inside n (WantsToSend to frame) h = cc
frame_inside n (WantsToReceive from) h = cc

frame_alone : (n m : ℕ) (e : LinkEvent) → is_frame_of n e ≡ true → is_frame_of m e ≡ true → n ≡ m
unfolding is_frame_of
frame_alone n m (Sends to frame) h k = absurd cc
frame_alone n m (SendsInSilence to frame) h k = absurd cc
frame_alone n m (Gets from frame) h k = sym (eqb-true from.0 n h) ∙ eqb-true from.0 m k
frame_alone n m (HearsSilence from) h k = absurd cc
frame_alone n m (WantsToSend to frame) h k = absurd cc
frame_alone n m (WantsToReceive from) h k = absurd cc

-- the silences of several bricks are among all silences
pub silences_within : {X : Type 0} (number : X → ℕ) (xs : List X) → Distinct number xs → (calls : List LinkEvent) → total (λ x. many 1 (is_silence_of (number x)) calls) xs ≤ count_by is_silence calls
silences_within number xs h calls = rw (count_is is_silence calls) (within is_silence_of is_silence silence_inside silence_alone number xs h calls)

-- the frames of several bricks are among all frames
pub frames_within : {X : Type 0} (number : X → ℕ) (xs : List X) → Distinct number xs → (calls : List LinkEvent) → total (λ x. many 1 (is_frame_of (number x)) calls) xs ≤ count_by is_frame calls
frames_within number xs h calls = rw (count_is is_frame calls) (within is_frame_of is_frame frame_inside frame_alone number xs h calls)
