-- What comes of the draws of an order. Others may draw between them.
use Rattle.std.specs.Prelude.{◌≡◌, ℕ, ◌<◌, ◌≤◌, Bool, true, false, List, [], ◌∷◌, Option, Some, None, Result, Ok, Err}
use Rattle.outside.specs.declared.serials.TheConstants.{SERIALS_END}
use Rattle.request_decisions.specs.Draws.{AreCutShort, AreDrawn, drawn_for, is_serial}
use Rattle.request_decisions.specs.declared.decision.Order.{Order}
use Rattle.request_decisions.specs.declared.drawing.DrawRefusal.{DrawRefusal}
use Rattle.request_decisions.specs.declared.drawing.DrawRefusal.TheVariants.{Spent, OutOfMemory}
use Rattle.request_decisions.specs.declared.draws.Draw.{Draw}
use Rattle.request_decisions.specs.declared.draws.DrawKind.{DrawKind}

module _ {S R : Type 0} (looks : S → ℕ → Option ℕ → S → Type 0) (gives : R → ℕ → R → Type 0) where
  -- a serial number is drawn, or else a random word: this number, from the first states to the second
  abbrev pub DrawsOne : Bool → S → R → ℕ → S → R → Type 0
  DrawsOne true s r number t q = (seen : ℕ) × (seen < SERIALS_END) × looks s seen (Some number) t × (q ≡ r)
  DrawsOne false s r number t q = gives r number q × (t ≡ s)

  -- numbers are drawn one after another
  abbrev pub HasDrawn : S → R → List Draw → S → R → Type 0
  HasDrawn s r [] t q = (t ≡ s) × (q ≡ r)
  HasDrawn s r (d ∷ ds) t q =
      (mid : S) × (next : R) × DrawsOne (is_serial d.kind) s r d.number mid next × HasDrawn mid next ds t q

  -- numbers are drawn until a serial number is spent: this one was looked at, which is past the end
  pub record IsSpent (kinds : List DrawKind) (s : S) (r : R) (drawn : List Draw) (seen : ℕ) (t : S) (q : R) : Type 0 where
    pub cut : AreCutShort kinds drawn
    pub before : S
    pub drawn_are : HasDrawn s r drawn before q
    pub looked : looks before seen None t
    pub past : SERIALS_END ≤ seen

  -- What comes of the draws of an order: all are drawn, or a serial number is spent; or none is, for want of memory.
  abbrev pub Draws : Order → S → R → Result (List Draw) DrawRefusal → S → R → Type 0
  Draws o s r (Ok drawn) t q = AreDrawn o drawn × HasDrawn s r drawn t q
  Draws o s r (Err (Spent seen drawn)) t q = IsSpent (drawn_for o) s r drawn seen t q
  Draws o s r (Err OutOfMemory) t q = (t ≡ s) × (q ≡ r)
