-- The counts of a link with lanes never fall, and rise by what an event adds to them.
use Rattle.std.proofs.Common.{arith, ◌≡◌, ◌∙◌, ap, sym, refl, subst, inl, inr, ℕ, zero, suc, ◌-◌, ◌^◌, ◌<◌, Bool, true, false, nat_lt, if◌then◌else◌, IsTrue, List, [], ◌∷◌, Option, Some, None}
use Rattle.std.specs.List.{slice_get, slice_set}
use Rattle.std.specs.Option.{option_map, option_map_or}
use Rattle.std.proofs.lemmas.Bool.{cases_lt, cases_eq, eqb-true, ltb-true}
use Rattle.crash_base.specs.declared.numbers.BrickNo.{BrickNo}
use Rattle.outside.specs.declared.link.LinkEvent.{LinkEvent}
use Rattle.outside.specs.declared.link.LinkEvent.TheVariants.{Sends, SendsInSilence, Gets, HearsSilence, WantsToSend, WantsToReceive}
use Rattle.outside.specs.Faults.{counted, NeverFalls, Rose}
use Rattle.outside.specs.Link.{Tally, Tallied, is_silence_of, is_frame}
use Rattle.link_lanes.specs.Lanes.{LanesValue, lane_in, lane_of, with_lane, on_lane, silences_by, tally_by, more_unknown, hushed_with, given_with, SilencesFit}

pub slice_get-set_same : {X : Type 0} (xs : List X) (i : ℕ) (x y : X) → slice_get xs i ≡ Some x → slice_get (slice_set xs i y) i ≡ Some y
slice_get-set_same [] i x y h = absurd cc
slice_get-set_same (z ∷ zs) zero x y h = refl
slice_get-set_same (z ∷ zs) (suc i) x y h = slice_get-set_same zs i x y h

pub slice_get-set_other : {X : Type 0} (xs : List X) (i j : ℕ) (y : X) → (i ≡ j → ⊥) → slice_get (slice_set xs i y) j ≡ slice_get xs j
slice_get-set_other [] i j y h = refl
slice_get-set_other (z ∷ zs) zero zero y h = absurd (h refl)
slice_get-set_other (z ∷ zs) zero (suc j) y h = refl
slice_get-set_other (z ∷ zs) (suc i) zero y h = refl
slice_get-set_other (z ∷ zs) (suc i) (suc j) y h = slice_get-set_other zs i j y (λ e. h (omega arith))

-- the lane of a brick after it was replaced
pub lane_after : {L : Type 0} (lanes : List L) (brick : ℕ) (lane new : L) → lane_in lanes brick ≡ Some lane → lane_in (slice_set lanes (brick - 1) new) brick ≡ Some new
lane_after lanes brick lane new = go (nat_lt 0 brick) where
  go : (some : Bool) → (if some then slice_get lanes (brick - 1) else None) ≡ Some lane → (if some then slice_get (slice_set lanes (brick - 1) new) (brick - 1) else None) ≡ Some new
  go true h = slice_get-set_same lanes (brick - 1) lane new h
  go false h = absurd cc

-- the lanes of other bricks stay
pub lane_beside : {L : Type 0} (lanes : List L) (brick other : ℕ) (lane new : L) → lane_in lanes brick ≡ Some lane → (brick ≡ other → ⊥) → lane_in (slice_set lanes (brick - 1) new) other ≡ lane_in lanes other
lane_beside lanes brick other lane new h differ = go (nat_lt 0 brick) (nat_lt 0 other) refl refl h where
  go : (some more : Bool) → nat_lt 0 brick ≡ some → nat_lt 0 other ≡ more → (if some then slice_get lanes (brick - 1) else None) ≡ Some lane
      → (if more then slice_get (slice_set lanes (brick - 1) new) (other - 1) else None) ≡ (if more then slice_get lanes (other - 1) else None)
  go true true e f h = slice_get-set_other lanes (brick - 1) (other - 1) new (λ q. differ (let m = ltb-true 0 brick e in let n = ltb-true 0 other f in omega arith))
  go true false e f h = refl
  go false more e f h = absurd cc

-- a brick that has a lane stays one with the changed lane, and the others stay
pub own_lane : {L : Type 0} (link : LanesValue L) (brick : BrickNo) (change : L → L) → lane_of (on_lane brick change link) brick.0 ≡ option_map change (lane_of link brick.0)
own_lane {L} link brick change = go (lane_of link brick.0) refl where
  go : (found : Option L) → lane_of link brick.0 ≡ found → lane_of (with_lane link brick.0 (option_map change found)) brick.0 ≡ option_map change found
  go None h = h
  go (Some lane) h = lane_after link.lanes brick.0 lane (change lane) h

pub other_lane : {L : Type 0} (link : LanesValue L) (brick : BrickNo) (change : L → L) (other : ℕ) → (brick.0 ≡ other → ⊥) → lane_of (on_lane brick change link) other ≡ lane_of link other
other_lane {L} link brick change other differ = go (lane_of link brick.0) refl where
  go : (found : Option L) → lane_of link brick.0 ≡ found → lane_of (with_lane link brick.0 (option_map change found)) other ≡ lane_of link other
  go None h = refl
  go (Some lane) h = lane_beside link.lanes brick.0 other lane (change lane) h differ

same : (n m : ℕ) → m ≡ n → NeverFalls n m
same n m h = record { least = omega arith; stays = λ e. h ∙ e }

one_more : (n : ℕ) → n < 2 ^ 64 → NeverFalls n (counted n)
one_more n fits = record { least = omega arith; stays = λ e. (let m : counted n ≡ 2 ^ 64 - 1 = omega arith in m) }

rose : (n : ℕ) → n < 2 ^ 64 → Rose n (counted n)
rose n fits = elim (cases_lt n (2 ^ 64 - 1)) [ inl below ↦ inl (omega arith) | inr above ↦ inr (omega arith) ]

-- what changes no silences of a lane changes none of the link
pub silences_stay : {L : Type 0} (silences : L → ℕ) (link : LanesValue L) (brick : BrickNo) (change : L → L) (number : ℕ) → ((lane : L) → silences (change lane) ≡ silences lane) → silences_by silences (on_lane brick change link) number ≡ silences_by silences link number
silences_stay {L} silences link brick change number keeps = elim (cases_eq brick.0 number) [
  | inl is ↦ (let P : ℕ → Type 0 = λ n. silences_by silences (on_lane brick change link) n ≡ silences_by silences link n in
      subst P is (unknown_stays brick.0 ∙ (ap (λ o. option_map_or silences o link.unknown) (own_lane link brick change) ∙ kept (lane_of link brick.0))))
  | inr differ ↦ unknown_stays number ∙ ap (λ o. option_map_or silences o link.unknown) (other_lane link brick change number differ)
]
  where
    same_unknown : (found : Option L) → (with_lane link brick.0 found).unknown ≡ link.unknown
    same_unknown None = refl
    same_unknown (Some lane) = refl

    unknown_stays : (n : ℕ) → silences_by silences (on_lane brick change link) n ≡ option_map_or silences (lane_of (on_lane brick change link) n) link.unknown
    unknown_stays n = ap (option_map_or silences (lane_of (on_lane brick change link) n)) (same_unknown (option_map change (lane_of link brick.0)))

    kept : (found : Option L) → option_map_or silences (option_map change found) link.unknown ≡ option_map_or silences found link.unknown
    kept None = refl
    kept (Some lane) = keeps lane

-- a changed lane changes no count of all
pub others_stay : {L : Type 0} (link : LanesValue L) (brick : ℕ) (found : Option L) → ((with_lane link brick found).hushed ≡ link.hushed) × ((with_lane link brick found).got ≡ link.got)
others_stay link brick None = (refl, refl)
others_stay link brick (Some lane) = (refl, refl)

-- a silence is counted among those of all, and changes no count of frames
pub hushed_of_all : {L : Type 0} (silent : L → L) (link : LanesValue L) (brick : BrickNo) → ((hushed_with silent brick link).hushed ≡ counted link.hushed) × ((hushed_with silent brick link).got ≡ link.got)
hushed_of_all {L} silent link brick = go (lane_of link brick.0) where
  go : (found : Option L) → ((more_unknown found (with_lane (record link { hushed = counted link.hushed }) brick.0 (option_map silent found))).hushed ≡ counted link.hushed)
      × ((more_unknown found (with_lane (record link { hushed = counted link.hushed }) brick.0 (option_map silent found))).got ≡ link.got)
  go None = (refl, refl)
  go (Some lane) = (refl, refl)

module _ {L : Type 0} (silences : L → ℕ) (silent : L → L) (counts : (lane : L) → silences (silent lane) ≡ counted (silences lane)) where
  -- a silence of a brick, or of a number without one, adds one to its silences
  pub hushed_more : (link : LanesValue L) (brick : BrickNo) → silences_by silences (hushed_with silent brick link) brick.0 ≡ counted (silences_by silences link brick.0)
  hushed_more link brick = go (lane_of link brick.0) refl where
    go : (found : Option L) → lane_of link brick.0 ≡ found
        → silences_by silences (more_unknown found (with_lane (record link { hushed = counted link.hushed }) brick.0 (option_map silent found))) brick.0
        ≡ counted (option_map_or silences found link.unknown)
    go None h = ap (λ o. option_map_or silences o (counted link.unknown)) h
    go (Some lane) h = ap (λ o. option_map_or silences o link.unknown) (lane_after link.lanes brick.0 lane (silent lane) h) ∙ counts lane

  -- and takes none from those of any number
  hushed_never : (link : LanesValue L) (brick : BrickNo) (number : ℕ) → SilencesFit (tally_by silences link) brick → NeverFalls (silences_by silences link number) (silences_by silences (hushed_with silent brick link) number)
  hushed_never link brick number fit = elim (cases_eq brick.0 number) [
    | inl is ↦ (let P : ℕ → Type 0 = λ n. NeverFalls (silences_by silences link n) (silences_by silences (hushed_with silent brick link) n) in
        subst P is (let Q : ℕ → Type 0 = λ n. NeverFalls (silences_by silences link brick.0) n in subst Q (sym (hushed_more link brick)) (one_more (silences_by silences link brick.0) fit.of_brick)))
    | inr differ ↦ go differ (lane_of link brick.0) refl
  ]
    where
      unknown_never : (found : Option L) → link.unknown < 2 ^ 64 → NeverFalls (option_map_or silences found link.unknown) (option_map_or silences found (counted link.unknown))
      unknown_never None fits = one_more link.unknown fits
      unknown_never (Some lane) fits = same (silences lane) (silences lane) refl

      go : (brick.0 ≡ number → ⊥) → (found : Option L) → lane_of link brick.0 ≡ found
          → NeverFalls (silences_by silences link number) (silences_by silences (more_unknown found (with_lane (record link { hushed = counted link.hushed }) brick.0 (option_map silent found))) number)
      go differ None h = unknown_never (lane_of link number) (let P : Option L → Type 0 = λ o. option_map_or silences o link.unknown < 2 ^ 64 in subst P h fit.of_brick)
      go differ (Some lane) h = same (silences_by silences link number) (option_map_or silences (lane_in (slice_set link.lanes (brick.0 - 1) (silent lane)) number) link.unknown) (ap (λ o. option_map_or silences o link.unknown) (lane_beside link.lanes brick.0 number lane (silent lane) h differ))

  -- an event in which a brick was silent
  silence_tallied : (old : LanesValue L) (brick : BrickNo) (event : LinkEvent) → SilencesFit (tally_by silences old) brick → is_frame event ≡ false → ((number : ℕ) → IsTrue (is_silence_of number event) → brick.0 ≡ number) → Tallied event (tally_by silences old) (tally_by silences (hushed_with silent brick old))
  silence_tallied old brick event fit none own = record {
    silences_never_fall = λ number. hushed_never old brick number fit;
    hushed_never_falls = (let P : ℕ → Type 0 = λ n. NeverFalls old.hushed n in subst P (sym (hushed_of_all silent old brick).0) (one_more old.hushed fit.of_all));
    got_never_falls = same old.got (hushed_with silent brick old).got (hushed_of_all silent old brick).1;
    silence_rises = λ number h. (let P : ℕ → Type 0 = λ n. Rose (silences_by silences old n) (silences_by silences (hushed_with silent brick old) n) in
        subst P (own number h) (let Q : ℕ → Type 0 = λ n. Rose (silences_by silences old brick.0) n in subst Q (sym (hushed_more old brick)) (rose (silences_by silences old brick.0) fit.of_brick)));
    hushed_rises = λ h. (let P : ℕ → Type 0 = λ n. Rose old.hushed n in subst P (sym (hushed_of_all silent old brick).0) (rose old.hushed fit.of_all));
    got_rises = λ h. absurd cc;
  }

  pub unsent_tallied : (old : LanesValue L) (to : BrickNo) (frame : List ℕ) → SilencesFit (tally_by silences old) to → Tallied (SendsInSilence to frame) (tally_by silences old) (tally_by silences (hushed_with silent to old))
  unsent_tallied old to frame fit = silence_tallied old to (SendsInSilence to frame) fit refl (λ number h. eqb-true to.0 number h)

  pub unheard_tallied : (old : LanesValue L) (from : BrickNo) → SilencesFit (tally_by silences old) from → Tallied (HearsSilence from) (tally_by silences old) (tally_by silences (hushed_with silent from old))
  unheard_tallied old from fit = silence_tallied old from (HearsSilence from) fit refl (λ number h. eqb-true from.0 number h)

-- a send that a brick took, whose lane has the silences that it had
pub sent_tallied : {L : Type 0} (silences : L → ℕ) (asked : L → L) → ((lane : L) → silences (asked lane) ≡ silences lane) → (old : LanesValue L) (to : BrickNo) (frame : List ℕ) → Tallied (Sends to frame) (tally_by silences old) (tally_by silences (on_lane to asked old))
sent_tallied silences asked keeps old to frame =
    let others = others_stay old to.0 (option_map asked (lane_of old to.0)) in
    record {
      silences_never_fall = λ number. same (silences_by silences old number) (silences_by silences (on_lane to asked old) number) (silences_stay silences old to asked number keeps);
      hushed_never_falls = same old.hushed (on_lane to asked old).hushed others.0;
      got_never_falls = same old.got (on_lane to asked old).got others.1;
      silence_rises = λ number h. absurd cc;
      hushed_rises = λ h. absurd cc;
      got_rises = λ h. absurd cc;
    }

-- a frame that came, whose lane has the silences that it had
pub got_tallied : {L : Type 0} (silences : L → ℕ) (given : L → L) → ((lane : L) → silences (given lane) ≡ silences lane) → (old : LanesValue L) (from : BrickNo) (frame : List ℕ) → old.got < 2 ^ 64 → Tallied (Gets from frame) (tally_by silences old) (tally_by silences (given_with given from old))
got_tallied {L} silences given keeps old from frame fits =
    let before : LanesValue L = record old { got = counted old.got } in
    let others = others_stay before from.0 (option_map given (lane_of old from.0)) in
    record {
      silences_never_fall = λ number. same (silences_by silences old number) (silences_by silences (given_with given from old) number) (silences_stay silences before from given number keeps);
      hushed_never_falls = same old.hushed (given_with given from old).hushed others.0;
      got_never_falls = (let P : ℕ → Type 0 = λ n. NeverFalls old.got n in subst P (sym others.1) (one_more old.got fits));
      silence_rises = λ number h. absurd cc;
      hushed_rises = λ h. absurd cc;
      got_rises = λ h. (let P : ℕ → Type 0 = λ n. Rose old.got n in subst P (sym others.1) (rose old.got fits));
    }

-- want of memory changes no count
pub unmade_tallied : (tally : Tally) (to : BrickNo) (frame : List ℕ) → Tallied (WantsToSend to frame) tally tally
unmade_tallied tally to frame = record {
  silences_never_fall = λ number. same (tally.silences number) (tally.silences number) refl;
  hushed_never_falls = same tally.hushed tally.hushed refl;
  got_never_falls = same tally.got tally.got refl;
  silence_rises = λ number h. absurd cc;
  hushed_rises = λ h. absurd cc;
  got_rises = λ h. absurd cc;
}

pub untaken_tallied : (tally : Tally) (from : BrickNo) → Tallied (WantsToReceive from) tally tally
untaken_tallied tally from = record {
  silences_never_fall = λ number. same (tally.silences number) (tally.silences number) refl;
  hushed_never_falls = same tally.hushed tally.hushed refl;
  got_never_falls = same tally.got tally.got refl;
  silence_rises = λ number h. absurd cc;
  hushed_rises = λ h. absurd cc;
  got_rises = λ h. absurd cc;
}
