-- The line `site` sets up the bricks that `bricks 3 3 2` sets up, and the parts of the site; it is done once at most.
use Rattle.std.proofs.Common.{◌≡◌, ◌≢◌, ℕ, Bool, true, false, not, ◌==◌, ◌&&◌, List, [], length, Option, Some, None, is_some, refl, sym, ap, ◌∙◌, arith}
use Rattle.std.proofs.lemmas.Bool.Decides.{nat_tests}
use Rattle.auction_rows.specs.Parts.{site_parts}
use Rattle.scenario_text.specs.Answer.{Answer, Refused, Done, refused_if, within}
use Rattle.scenario_text.specs.Setup.{SetupState, are_counts, bricks_step}
use Rattle.scenario_text.specs.declared.setup.BrickCounts.{BrickCounts}
use Rattle.scenario_text.specs.declared.head_line.HeadLine.TheVariants as heads
use Rattle.line_steps.specs.Head.{head_step, open_step, site_step, with_setup, with_site}
use Rattle.line_steps.specs.declared.head.Head.{Head}
use Rattle.line_steps.specs.declared.head.TheConstants.{SITE_BRICKS, SITE_LEAST, SITE_MOST}

-- A line is done that leaves this setup of sessions, and writes this.
abbrev SetsUp : Answer Head → SetupState → List ℕ → Type 0
SetsUp answer setup text = (other : Head) × (answer ≡ Done other text) × (setup ≡ other.setup)

pub site_bricks : (head new : Head) (text : List ℕ) → head_step head heads.Site ≡ Done new text → SetsUp (head_step head (heads.Bricks 3 3 2)) new.setup text
unfolding site_step
site_bricks head new text is = closed head.site is where
  set_up : (a : Answer SetupState) → within (with_site head) a ≡ Done new text → SetsUp (within (with_setup head) a) new.setup text
  set_up Refused e = absurd (cc)
  set_up (Done setup out) e =
      let same : with_site head setup ≡ new = cc in
      let written : out ≡ text = cc in
      (with_setup head setup, ap (λ (x : List ℕ). Done (with_setup head setup) x) written, sym (ap (λ (h : Head). h.setup) same))

  bare : (b : Bool) → refused_if b (within (with_site head) (bricks_step head.setup 3 3 2)) ≡ Done new text → SetsUp (within (with_setup head) (bricks_step head.setup 3 3 2)) new.setup text
  bare true e = absurd (cc)
  bare false e = set_up (bricks_step head.setup 3 3 2) e

  closed : (b : Bool) → refused_if (b && false) (open_step head heads.Site) ≡ Done new text → SetsUp (refused_if (b && false) (open_step head (heads.Bricks 3 3 2))) new.setup text
  closed true e = bare (not (length head.parts.components == 0)) e
  closed false e = bare (not (length head.parts.components == 0)) e

-- what it leaves
pub site_done : (head new : Head) (text : List ℕ) → head_step head heads.Site ≡ Done new text → (new.site ≡ true) × (new.parts ≡ site_parts) × (text ≡ [])
unfolding site_step bricks_step
site_done head new text is = closed head.site is where
  Leaves : Type 0
  Leaves = (new.site ≡ true) × (new.parts ≡ site_parts) × (text ≡ [])

  counted : (b : Bool) (setup : SetupState) → within (with_site head) (refused_if b (Done setup [])) ≡ Done new text → Leaves
  counted true setup e = absurd (cc)
  counted false setup e =
      let same : with_site head setup ≡ new = cc in
      let written : [] ≡ text = cc in
      (sym (ap (λ (h : Head). h.site) same), sym (ap (λ (h : Head). h.parts) same), sym written)

  set_up : (b : Bool) → within (with_site head) (refused_if b (refused_if (not (are_counts SITE_BRICKS SITE_MOST SITE_LEAST)) (Done (record (head.setup) { counts = Some (record { bricks = SITE_BRICKS; most = SITE_MOST; least = SITE_LEAST }) }) []))) ≡ Done new text → Leaves
  set_up true e = absurd (cc)
  set_up false e = counted (not (are_counts SITE_BRICKS SITE_MOST SITE_LEAST)) (record (head.setup) { counts = Some (record { bricks = SITE_BRICKS; most = SITE_MOST; least = SITE_LEAST }) }) e

  bare : (b : Bool) → refused_if b (within (with_site head) (bricks_step head.setup SITE_BRICKS SITE_MOST SITE_LEAST)) ≡ Done new text → Leaves
  bare true e = absurd (cc)
  bare false e = set_up (is_some head.setup.counts) e

  closed : (b : Bool) → refused_if (b && false) (open_step head heads.Site) ≡ Done new text → Leaves
  closed true e = bare (not (length head.parts.components == 0)) e
  closed false e = bare (not (length head.parts.components == 0)) e

-- the site is none of the lines that it closes
site_open : (head : Head) → head_step head heads.Site ≡ open_step head heads.Site
site_open head = closed head.site where
  closed : (b : Bool) → refused_if (b && false) (open_step head heads.Site) ≡ open_step head heads.Site
  closed true = refl
  closed false = refl

-- it is done where there is nothing
pub site_taken : (head : Head) → length head.parts.components ≡ 0 → head.setup.counts ≡ None → (new : Head) × (head_step head heads.Site ≡ Done new [])
unfolding site_step bricks_step
site_taken head empty bare =
    let setup : SetupState = record (head.setup) { counts = Some (record { bricks = SITE_BRICKS; most = SITE_MOST; least = SITE_LEAST }) } in (
      with_site head setup,
      site_open head
          ∙ (ap (λ (n : ℕ). refused_if (not (n == 0)) (within (with_site head) (bricks_step head.setup SITE_BRICKS SITE_MOST SITE_LEAST))) empty
          ∙ ap (λ (o : Option BrickCounts). within (with_site head) (refused_if (is_some o) (Done setup []))) bare),
    )

some_there : (n : ℕ) → n ≢ 0 → not (n == 0) ≡ true
some_there n some = go (n == 0) refl where
  go : (b : Bool) → (n == 0) ≡ b → not b ≡ true
  go true is = let none : n ≡ 0 = grind (arith, nat_tests) in absurd (some none)
  go false is = refl

-- and refused where a component is there
pub site_once : (head : Head) → length head.parts.components ≢ 0 → head_step head heads.Site ≡ Refused
unfolding site_step
site_once head some =
    site_open head
    ∙ ap (λ (b : Bool). refused_if b (within (with_site head) (bricks_step head.setup SITE_BRICKS SITE_MOST SITE_LEAST))) (some_there (length head.parts.components) some)
