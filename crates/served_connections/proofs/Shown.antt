-- What the course of a connection shows.
use Rattle.std.proofs.Common.{◌≡◌, ◌≢◌, ◌⊎◌, inl, inr, zero, suc, ◌∙◌, ◌&&◌, ℕ, nat_le, ◌≤◌, Bool, true, false, List, [], ◌∷◌, ◌++◌, All, length, map, slice_get, take, Option, Some, None, arith, refl, sym, ap, subst}
use Rattle.std.specs.List.{flat_map}
use Rattle.std.specs.Prelude.{option_map}
use Rattle.std.proofs.lemmas.Bool.Decides.{nat_tests}
use Rattle.std.proofs.lemmas.List.{append_assoc, map-append}
use Rattle.std.proofs.lemmas.List.Elements.{All-head, All-tail}
use Rattle.container_core.specs.History.{entries_in}
use Rattle.container_core.specs.declared.history.Event.{Event}
use Rattle.crash_base.specs.declared.numbers.Moment.{Moment}
use Rattle.crash_base.specs.declared.numbers.Version.{Version}
use Rattle.http_wire.specs.declared.taken.Head.{Head}
use Rattle.outcome_items.specs.Answers.{IsResponse}
use Rattle.outcome_items.specs.declared.item.Item.{Item}
use Rattle.outside.specs.declared.link.LinkEvent.{LinkEvent}
use Rattle.request_decisions.specs.Counts.{ascends}
use Rattle.request_decisions.specs.declared.draws.Draw.{Draw}
use Rattle.request_visit.specs.Advancing.{value_of}
use Rattle.request_visit.specs.Sessions.{IsKnown}
use Rattle.send_windows.specs.declared.history.WindowMark.{WindowMark}
use Rattle.send_windows.specs.declared.history.WindowMark.TheVariants as mark
use Rattle.session_cookie.specs.declared.cookie.Cookie.{Cookie}
use Rattle.session_way.specs.declared.lease.SessionLease.{SessionLease}
use Rattle.served_items.specs.Attributing.{TakenIn, drawn_for_all, taken_heads}
use Rattle.served_items.specs.Served.{IsValueRead, ServedItem}
use Rattle.ssm_stub.specs.Reads.{read_start}
use Rattle.shepherd.specs.Answering.{Responds, Response}
use Rattle.shepherd.specs.Stopping.{AreOfOne}

both : (a b : Bool) → (a && b) ≡ true → (a ≡ true) × (b ≡ true)
both true b h = (refl, h)
both false b h = absurd (cc)

le : (n m : ℕ) → nat_le n m ≡ true → n ≤ m
le n m h = grind (arith, nat_tests)

-- numbers that ascend: one, and one behind it
up : (n m : ℕ) (between behind : List ℕ) → ascends (n ∷ (between ++ m ∷ behind)) ≡ true → n ≤ m
up n m [] behind h = le n m (both (nat_le n m) (ascends (m ∷ behind)) h).0
up n m (k ∷ between) behind h =
    let parts = both (nat_le n k) (ascends (k ∷ (between ++ m ∷ behind))) h in
    let first : n ≤ k = le n k parts.0 in
    let rest : k ≤ m = up k m between behind parts.1 in
    omega (arith, first, rest)

up_behind : (n m : ℕ) (before between behind : List ℕ) → ascends (before ++ n ∷ (between ++ m ∷ behind)) ≡ true → n ≤ m
up_behind n m [] between behind h = up n m between behind h
up_behind n m (k ∷ []) between behind h = up n m between behind (both (nat_le k n) (ascends (n ∷ (between ++ m ∷ behind))) h).1
up_behind n m (k ∷ l ∷ before) between behind h = up_behind n m (l ∷ before) between behind (both (nat_le k l) (ascends (l ∷ (before ++ n ∷ (between ++ m ∷ behind)))) h).1

-- the moments of items
abbrev moments : List Item → List ℕ
moments items = map (λ (i : Item). i.moment.0) items

apart : (before behind : List Item) (more : List ℕ) → moments (before ++ behind) ++ more ≡ moments before ++ (moments behind ++ more)
apart before behind more = ap (λ ms. ms ++ more) (map-append (λ (i : Item). i.moment.0) before behind) ∙ append_assoc (moments before) (moments behind) more

-- The moment of an item lies between the first and the last.
pub moments_between : (earliest latest : ℕ) (open_moments : List ℕ) (before behind : List Item) (i : Item)
    → ascends (earliest ∷ (map (λ (i : Item). i.moment.0) (before ++ i ∷ behind) ++ (open_moments ++ latest ∷ []))) ≡ true → (earliest ≤ i.moment.0) × (i.moment.0 ≤ latest)
moments_between earliest latest open_moments before behind i h =
    let so : ascends (earliest ∷ (moments before ++ i.moment.0 ∷ (moments behind ++ (open_moments ++ latest ∷ [])))) ≡ true =
    subst (λ ms. ascends (earliest ∷ ms) ≡ true) (apart before (i ∷ behind) (open_moments ++ latest ∷ [])) h in
    let tail : moments behind ++ (open_moments ++ latest ∷ []) ≡ (moments behind ++ open_moments) ++ latest ∷ [] = sym (append_assoc (moments behind) open_moments (latest ∷ [])) in (
      up earliest i.moment.0 (moments before) (moments behind ++ (open_moments ++ latest ∷ [])) so,
      up_behind i.moment.0 latest (earliest ∷ moments before) (moments behind ++ open_moments) []
          (subst (λ ms. ascends (earliest ∷ (moments before ++ i.moment.0 ∷ ms)) ≡ true) tail so),
    )

-- what stands at a place stands there in a longer list
pub still_there : {A : Type 0} (xs ys : List A) (n : ℕ) (x : A) → slice_get xs n ≡ Some x → slice_get (xs ++ ys) n ≡ Some x
still_there [] ys n x is = absurd (cc)
still_there (a ∷ xs) ys zero x is = is
still_there (a ∷ xs) ys (suc n) x is = still_there xs ys n x is

-- what is told behind more
further : {A : Type 0} (xs ys zs all : List A) → all ≡ ys ++ zs → xs ++ all ≡ (xs ++ ys) ++ zs
further xs ys zs all is = ap (λ (l : List _). xs ++ l) is ∙ sym (append_assoc xs ys zs)

-- An item is for the request in its place, and what was drawn for that stands among what was drawn.
pub in_its_place : (So : TakenIn → Item → Type 0) (served : List ServedItem) (opened : List TakenIn) (before behind : List Item) (i : Item)
    → before ++ i ∷ behind ≡ map (λ (x : ServedItem). x.item) served → All (λ (x : ServedItem). So x.taken x.item) served
    → (t : TakenIn) × (slice_get (taken_heads (map (λ (x : ServedItem). x.taken) served ++ opened)) (length before) ≡ Some t.head) × So t i
    × ((earlier : List Draw) × (later : List Draw) × (drawn_for_all (map (λ (x : ServedItem). x.taken) served ++ opened) ≡ earlier ++ (t.intake.drawn ++ later)))
in_its_place So [] opened [] behind i is all = absurd (cc)
in_its_place So [] opened (b ∷ before) behind i is all = absurd (cc)
in_its_place So (x ∷ served) opened [] behind i is all =
    let same : i ≡ x.item = cc in
    (x.taken, refl, subst (So x.taken) (sym same) (All-head (λ (x : ServedItem). So x.taken x.item) x served all), ([], drawn_for_all (map (λ (x : ServedItem). x.taken) served ++ opened), refl))
in_its_place So (x ∷ served) opened (b ∷ before) behind i is all =
    let rest : before ++ i ∷ behind ≡ map (λ (x : ServedItem). x.item) served = cc in
    let there = in_its_place So served opened before behind i rest (All-tail (λ (x : ServedItem). So x.taken x.item) x served all) in
    (there.0, there.1, there.2, (x.taken.intake.drawn ++ there.3.0, there.3.1, further x.taken.intake.drawn there.3.0 (there.0.intake.drawn ++ there.3.1) (drawn_for_all (map (λ (x : ServedItem). x.taken) served ++ opened)) there.3.2))

-- The response to an item stands among what was put out, and is to the request in its place.
pub responds_in_place : (key : List ℕ) (history : List Event) (responses : List Response) (opened : List Head) (before behind : List Item) (i : Item)
    → before ++ i ∷ behind ≡ map (λ (r : Response). r.item) responses → All (Responds key history) responses
    → (head : Head) × (slice_get (map (λ (r : Response). r.head) responses ++ opened) (length before) ≡ Some head)
    × ((first : List ℕ) × (bytes : List ℕ) × (rest : List ℕ) × (flat_map (λ (r : Response). r.bytes) responses ≡ first ++ (bytes ++ rest))
    × IsResponse key (entries_in (take i.holds.held history)) i head bytes)
responds_in_place key history [] opened [] behind i is all = absurd (cc)
responds_in_place key history [] opened (b ∷ before) behind i is all = absurd (cc)
responds_in_place key history (r ∷ responses) opened [] behind i is all =
    let same : i ≡ r.item = cc in (
      r.head,
      refl,
      (
        [],
        r.bytes,
        flat_map (λ (r : Response). r.bytes) responses,
        refl,
        subst (λ (x : Item). IsResponse key (entries_in (take x.holds.held history)) x r.head r.bytes) (sym same) (All-head (Responds key history) r responses all),
      ),
    )
responds_in_place key history (r ∷ responses) opened (b ∷ before) behind i is all =
    let rest : before ++ i ∷ behind ≡ map (λ (r : Response). r.item) responses = cc in
    let there = responds_in_place key history responses opened before behind i rest (All-tail (Responds key history) r responses all) in
    (there.0, there.1, (r.bytes ++ there.2.0, there.2.1, there.2.2, further r.bytes there.2.0 (there.2.1 ++ there.2.2) (flat_map (λ (r : Response). r.bytes) responses) there.2.3, there.2.4))

-- the marks of one request, whose passes are spent
pub none_unspent : (marks : List WindowMark) → AreOfOne marks → marks ≢ mark.Taken 0 ∷ [] → (marks ≡ []) ⊎ ((marks ≡ mark.Refused ∷ []) ⊎ (marks ≡ mark.Taken 0 ∷ mark.Spent ∷ []))
none_unspent marks (inl none) spent = inl none
none_unspent marks (inr (inl refused)) spent = inr (inl refused)
none_unspent marks (inr (inr (inl taken))) spent = absurd (spent taken)
none_unspent marks (inr (inr (inr two))) spent = inr (inr two)

-- The value of a session that is known is what its read answered, by the cookie of the request.
pub value_read : {L : Type 0} (calls : L → LinkEvent → L → Type 0) (now : Moment) (nonce : Version) (cookie : Option Cookie) (lease : Option SessionLease) → IsKnown calls (option_map (λ (c : Cookie). read_start now nonce c) cookie) lease
    → IsValueRead calls now nonce cookie (option_map value_of lease)
value_read calls now nonce None None known = refl
value_read calls now nonce None (Some lease) known = absurd known
value_read calls now nonce (Some cookie) None known = absurd known
value_read calls now nonce (Some cookie) (Some lease) known = (lease.value, refl, known.2)

-- what stands behind as many
pub next_there : {A : Type 0} (xs ys : List A) (x : A) (n : ℕ) → n ≡ length xs → slice_get (xs ++ x ∷ ys) n ≡ Some x
next_there {A} xs ys x n is = subst (λ (k : ℕ). slice_get (xs ++ x ∷ ys) k ≡ Some x) (sym is) (by xs) where
  by : (zs : List A) → slice_get (zs ++ x ∷ ys) (length zs) ≡ Some x
  by [] = refl
  by (z ∷ zs) = by zs
