-- What an answer that is done leaves and writes.
use Rattle.std.proofs.Common.{◌≡◌, ℕ, Bool, true, false, cond, List, [], ◌∷◌, ◌++◌, Option, Some, None, refl, sym, ap, subst, ◌∙◌}
use Rattle.scenario_text.specs.Answer.{Answer, Refused, Done, or_refused, refused_if, within}
use Rattle.seat_lines.specs.Lines.{step_line}
use Rattle.seat_lines.specs.Runs.{can_run, rests, run_from, run_line}
use Rattle.seat_lines.specs.Site.{SiteState, seat_at}

-- What an answer leaves and writes is so, where it is not refused.
abbrev pub Comes : {S : Type 0} → (S → List ℕ → Type 0) → Answer S → Type 0
Comes P Refused = Unit {0}
Comes P (Done s text) = P s text

pub comes_to : {S : Type 0} (P : S → List ℕ → Type 0) (a : Answer S) (s : S) (text : List ℕ) → Comes P a → a ≡ Done s text → P s text
comes_to P a s text comes is = let Q : Answer _ → Type 0 = λ x. Comes P x in subst Q is comes

pub comes_if : {S : Type 0} (P : S → List ℕ → Type 0) (b : Bool) (a : Answer S) → (b ≡ false → Comes P a) → Comes P (refused_if b a)
comes_if P true a h = tt
comes_if P false a h = h refl

pub comes_or : {A S : Type 0} (P : S → List ℕ → Type 0) (o : Option A) (f : A → Answer S) → ((x : A) → o ≡ Some x → Comes P (f x)) → Comes P (or_refused o f)
comes_or P None f h = tt
comes_or P (Some x) f h = h x refl

pub comes_within : {A S : Type 0} (P : S → List ℕ → Type 0) (whole : A → S) (a : Answer A) → Comes (λ x text. P (whole x) text) a → Comes P (within whole a)
comes_within P whole Refused h = tt
comes_within P whole (Done x text) h = h

-- every answer leaves and writes what always holds
pub comes_all : {S : Type 0} (P : S → List ℕ → Type 0) (a : Answer S) → ((s : S) (text : List ℕ) → P s text) → Comes P a
comes_all P Refused each = tt
comes_all P (Done s text) each = each s text

-- what holds behind each step of a run holds behind the run
pub run_keeps : (P : SiteState → Type 0) (n : ℕ) → ((s : SiteState) (keeps : Bool) → P s → Comes (λ t text. P t) (step_line s n keeps)) → (s : SiteState) (text : List ℕ) (replies : List Bool) (t : SiteState) (out : List ℕ) → P s → run_from s text n replies ≡ Some (Done t out) → P t
run_keeps P n each s text [] t out here is = go (rests (seat_at s.seats.seats n)) is where
  go : (b : Bool) → cond b (Some (Done s text)) None ≡ Some (Done t out) → P t
  go true e = let same : s ≡ t = cc in subst P same here
  go false e = absurd (cc)
run_keeps P n each s text (keeps ∷ more) t out here is = go (λ x o. run_keeps P n each x (text ++ o) more t out) (rests (seat_at s.seats.seats n)) is where
  Later : Type 0
  Later = (x : SiteState) (o : List ℕ) → P x → run_from x (text ++ o) n more ≡ Some (Done t out) → P t

  by : Later → (a : Answer SiteState) → Comes (λ x o. P x) a → (elim a [ Refused ↦ Some Refused | Done x o ↦ run_from x (text ++ o) n more ]) ≡ Some (Done t out) → P t
  by later Refused comes e = absurd (cc)
  by later (Done x o) comes e = later x o comes e

  go : Later → (b : Bool) → cond b (Some (Done s text)) (elim (step_line s n keeps) [ Refused ↦ Some Refused | Done x o ↦ run_from x (text ++ o) n more ]) ≡ Some (Done t out) → P t
  go later true e = let same : s ≡ t = cc in subst P same here
  go later false e = by later (step_line s n keeps) (each s keeps here) e

-- behind a run that is done, the connection is at rest
pub run_rests : (s : SiteState) (text : List ℕ) (n : ℕ) (replies : List Bool) (t : SiteState) (out : List ℕ) → run_from s text n replies ≡ Some (Done t out) → rests (seat_at t.seats.seats n) ≡ true
run_rests s text n [] t out is = go (rests (seat_at s.seats.seats n)) refl is where
  go : (b : Bool) → rests (seat_at s.seats.seats n) ≡ b → cond b (Some (Done s text)) None ≡ Some (Done t out) → rests (seat_at t.seats.seats n) ≡ true
  go true at e = let same : s ≡ t = cc in ap (λ (x : SiteState). rests (seat_at x.seats.seats n)) (sym same) ∙ at
  go false at e = absurd (cc)
run_rests s text n (keeps ∷ more) t out is = go (λ x o. run_rests x (text ++ o) n more t out) (rests (seat_at s.seats.seats n)) refl is where
  Later : Type 0
  Later = (x : SiteState) (o : List ℕ) → run_from x (text ++ o) n more ≡ Some (Done t out) → rests (seat_at t.seats.seats n) ≡ true

  by : Later → (a : Answer SiteState) → (elim a [ Refused ↦ Some Refused | Done x o ↦ run_from x (text ++ o) n more ]) ≡ Some (Done t out) → rests (seat_at t.seats.seats n) ≡ true
  by later Refused e = absurd (cc)
  by later (Done x o) e = later x o e

  go : Later → (b : Bool) → rests (seat_at s.seats.seats n) ≡ b → cond b (Some (Done s text)) (elim (step_line s n keeps) [ Refused ↦ Some Refused | Done x o ↦ run_from x (text ++ o) n more ]) ≡ Some (Done t out) → rests (seat_at t.seats.seats n) ≡ true
  go later true at e = let same : s ≡ t = cc in ap (λ (x : SiteState). rests (seat_at x.seats.seats n)) (sym same) ∙ at
  go later false at e = by later (step_line s n keeps) e

-- a run that is done could begin
pub run_begun : (s t : SiteState) (n : ℕ) (replies : List Bool) (out : List ℕ) → run_line s n replies ≡ Some (Done t out) → run_from s [] n replies ≡ Some (Done t out)
unfolding run_line
run_begun s t n replies out is = go (can_run s n) is where
  go : (b : Bool) → cond b (run_from s [] n replies) (Some Refused) ≡ Some (Done t out) → run_from s [] n replies ≡ Some (Done t out)
  go true e = e
  go false e = absurd (cc)
