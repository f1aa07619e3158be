-- The serial numbers that are drawn rise, and those of a read and of a write differ.
use Rattle.std.proofs.Common.{is_none, is_some, ◌≡◌, ◌≢◌, ◌∙◌, ◌≤◌, ◌<◌, ◌+◌, ◌%◌, ◌^◌, ◌||◌, ℕ, suc, Bool, true, false, nat_lt, nat_le, not, ◌&&◌, if◌then◌else◌, List, [], ◌∷◌, ◌++◌, Option, Some, None, refl, sym, ap, subst, arith}
use Rattle.std.specs.List.{list_any}
use Rattle.std.proofs.lemmas.Bool.{ltb-false}
use Rattle.std.proofs.lemmas.Bool.Decides.{nat_tests}
use Rattle.outside.specs.declared.serials.TheConstants.{SERIALS_END}
use Rattle.request_decisions.specs.Calls.{number_for}
use Rattle.request_decisions.specs.Counts.{is_kind, kind_number}
use Rattle.request_decisions.specs.Draws.{begins_session, drawn_for, is_serial, kinds_of, shows_form, where_so}
use Rattle.request_decisions.specs.declared.decision.Order.{Order}
use Rattle.request_decisions.specs.declared.draws.Draw.{Draw}
use Rattle.request_decisions.specs.declared.draws.DrawKind.{DrawKind}
use Rattle.request_decisions.specs.declared.draws.DrawKind.TheVariants.{Request, Token, KeyWord, Fresh, Read, Write}
use Rattle.session_cookie.specs.declared.cookie.Cookie.{Cookie}
use Rattle.shepherd_steps.specs.Taking.{Counts, Drawing, Numbers, behind, draws}
use Rattle.seat_steps.specs.Seats.{numbers_from}
use Rattle.seat_laws.specs.Owing.{RiseFrom, next_from}

-- one draw more, if it is one
abbrev more : Bool → Bool → DrawKind → ℕ → ℕ → Counts → Drawing → Drawing → Drawing
more b c kind seen word counts further words =
    if b then (if c then behind (record { kind = kind; number = seen }) further else (record { drawn = []; spent = Some seen; counts = counts }))
    else behind (record { kind = kind; number = word }) words

more-rise : (kind : DrawKind) (serial seen word : ℕ) (counts : Counts) (further words : Drawing) → seen ≡ serial + counts.serials → RiseFrom (suc seen) (serial + further.counts.serials) further.drawn
    → RiseFrom seen (serial + words.counts.serials) words.drawn → (b : Bool) → is_serial kind ≡ b → (c : Bool)
    → RiseFrom seen (serial + (more b c kind seen word counts further words).counts.serials) (more b c kind seen word counts further words).drawn
more-rise kind serial seen word counts further words at one other true is true = (
  (λ e. omega arith),
  subst (λ (n : ℕ). RiseFrom n (serial + further.counts.serials) further.drawn) (ap (λ (b : Bool). if b then suc seen else seen) (sym is)) one,
)
more-rise kind serial seen word counts further words at one other true is false = omega (arith, at)
more-rise kind serial seen word counts further words at one other false is c = (
  (λ e. absurd (let clash : false ≡ true = sym is ∙ e in cc)),
  subst (λ (n : ℕ). RiseFrom n (serial + words.counts.serials) words.drawn) (ap (λ (b : Bool). if b then suc word else seen) (sym is)) other,
)

-- What is drawn lies from the serial number that was next up to the one that is next then.
pub rise : (word serial : ℕ) (kinds : List DrawKind) (counts : Counts)
    → RiseFrom (serial + counts.serials) (serial + (draws (numbers_from word serial) kinds counts).counts.serials) (draws (numbers_from word serial) kinds counts).drawn
rise word serial [] counts = omega arith
rise word serial (kind ∷ kinds) counts =
    let next-one : serial + suc counts.serials ≡ suc (serial + counts.serials) = omega arith in
    more-rise kind serial (serial + counts.serials) ((word + counts.words) % (2 ^ 64)) counts
    (draws (numbers_from word serial) kinds (record counts { serials = suc counts.serials })) (draws (numbers_from word serial) kinds (record counts { words = suc counts.words })) refl
    (subst (λ (n : ℕ). RiseFrom n (serial + (draws (numbers_from word serial) kinds (record counts { serials = suc counts.serials })).counts.serials) (draws (numbers_from word serial) kinds (record counts { serials = suc counts.serials })).drawn)
    next-one (rise word serial kinds (record counts { serials = suc counts.serials })))
    (rise word serial kinds (record counts { words = suc counts.words })) (is_serial kind) refl (nat_lt (serial + counts.serials) SERIALS_END)

-- whether a kind is among these
abbrev pub has : DrawKind → List DrawKind → Bool
has kind kinds = list_any (λ (k : DrawKind). is_kind k kind) kinds

more-drawn : (kind : DrawKind) (kinds : List DrawKind) (seen word : ℕ) (counts : Counts) (further words : Drawing) → (further.spent ≡ None → kinds_of further.drawn ≡ kinds)
    → (words.spent ≡ None → kinds_of words.drawn ≡ kinds) → (b c : Bool) → (more b c kind seen word counts further words).spent ≡ None → kinds_of (more b c kind seen word counts further words).drawn ≡ kind ∷ kinds
more-drawn kind kinds seen word counts further words one other true true none = ap (λ (ks : List DrawKind). kind ∷ ks) (one none)
more-drawn kind kinds seen word counts further words one other true false none = absurd (cc)
more-drawn kind kinds seen word counts further words one other false c none = ap (λ (ks : List DrawKind). kind ∷ ks) (other none)

-- where all was drawn, just these were
pub all-drawn : (numbers : Numbers) (kinds : List DrawKind) (counts : Counts) → (draws numbers kinds counts).spent ≡ None → kinds_of (draws numbers kinds counts).drawn ≡ kinds
all-drawn numbers [] counts = λ none. refl
all-drawn numbers (kind ∷ kinds) counts =
    more-drawn kind kinds (numbers.serials counts.serials) (numbers.words counts.words) counts (draws numbers kinds (record counts { serials = suc counts.serials })) (draws numbers kinds (record counts { words = suc counts.words }))
    (all-drawn numbers kinds (record counts { serials = suc counts.serials })) (all-drawn numbers kinds (record counts { words = suc counts.words }))
    (is_serial kind) (nat_lt (numbers.serials counts.serials) SERIALS_END)

more-spent : (kind : DrawKind) (seen word last : ℕ) (counts : Counts) (further words : Drawing) → (further.spent ≡ Some last → SERIALS_END ≤ last) → (words.spent ≡ Some last → SERIALS_END ≤ last)
    → (b c : Bool) → nat_lt seen SERIALS_END ≡ c → (more b c kind seen word counts further words).spent ≡ Some last → SERIALS_END ≤ last
more-spent kind seen word last counts further words one other true true at is = one is
more-spent kind seen word last counts further words one other true false at is =
    let e : Some seen ≡ Some last = is in let same : seen ≡ last = cc in subst (λ (n : ℕ). SERIALS_END ≤ n) same (ltb-false seen SERIALS_END at)
more-spent kind seen word last counts further words one other false c at is = other is

-- a serial number that is spent is past the last one
pub spent-past : (numbers : Numbers) (last : ℕ) (kinds : List DrawKind) (counts : Counts) → (draws numbers kinds counts).spent ≡ Some last → SERIALS_END ≤ last
spent-past numbers last [] counts is = absurd (let e : None ≡ Some last = is in cc)
spent-past numbers last (kind ∷ kinds) counts is =
    more-spent kind (numbers.serials counts.serials) (numbers.words counts.words) last counts
    (draws numbers kinds (record counts { serials = suc counts.serials })) (draws numbers kinds (record counts { words = suc counts.words }))
    (spent-past numbers last kinds (record counts { serials = suc counts.serials })) (spent-past numbers last kinds (record counts { words = suc counts.words }))
    (is_serial kind) (nat_lt (numbers.serials counts.serials) SERIALS_END) refl is

-- whether a kind of this number is drawn by a serial number
abbrev serial_number : ℕ → Bool
serial_number n = not (nat_le 2 n && nat_le n 3)

serial-by : (k : DrawKind) → is_serial k ≡ serial_number (kind_number k)
serial-by Request = refl
serial-by Token = refl
serial-by KeyWord = refl
serial-by Fresh = refl
serial-by Read = refl
serial-by Write = refl

-- a kind that is a serial one is drawn so
serial-kind : (k other : DrawKind) → is_kind k other ≡ true → is_serial other ≡ true → is_serial k ≡ true
serial-kind k other is serial =
    let same : kind_number k ≡ kind_number other = grind (arith, nat_tests, is) in
    serial-by k ∙ (ap serial_number same ∙ (sym (serial-by other) ∙ serial))

-- the number of a kind that is drawn first, or later
number-first : (kind : DrawKind) (d : Draw) (ds : List Draw) → is_kind d.kind kind ≡ true → number_for kind (d ∷ ds) ≡ d.number
number-first kind d ds is = simp is

number-later : (kind : DrawKind) (d : Draw) (ds : List Draw) → is_kind d.kind kind ≡ false → number_for kind (d ∷ ds) ≡ number_for kind ds
number-later kind d ds is = simp is

has-later : (kind k : DrawKind) (ks : List DrawKind) → is_kind k kind ≡ false → has kind (k ∷ ks) ≡ true → has kind ks ≡ true
has-later kind k ks is has = sym (ap (λ (b : Bool). b || list_any (λ (j : DrawKind). is_kind j kind) ks) is) ∙ has

-- a draw goes no lower
goes-on : (from : ℕ) (d : Draw) → (is_serial d.kind ≡ true → from ≤ d.number) → from ≤ next_from d from
goes-on from d within = by (is_serial d.kind) refl where
  by : (b : Bool) → is_serial d.kind ≡ b → from ≤ (if b then suc d.number else from)
  by true is = let le = within is in omega (arith, le)
  by false is = omega arith

behind-serial : (from : ℕ) (d : Draw) → is_serial d.kind ≡ true → next_from d from ≡ suc d.number
behind-serial from d is = ap (λ (b : Bool). if b then suc d.number else from) is

goes-up : (from end : ℕ) (ds : List Draw) → RiseFrom from end ds → from ≤ end
goes-up from end [] le = le
goes-up from end (d ∷ ds) rising =
    let on = goes-on from d rising.0 in let up = goes-up (next_from d from) end ds rising.1 in omega (arith, on, up)

-- A serial number that was drawn lies between.
pub record IsBetween (from end number : ℕ) : Type 0 where
  pub above : from ≤ number
  pub below : number < end

pub between : (kind : DrawKind) → is_serial kind ≡ true → (from end : ℕ) (ds : List Draw) → RiseFrom from end ds → has kind (kinds_of ds) ≡ true → IsBetween from end (number_for kind ds)
between kind serial from end [] rising there = absurd (cc)
between kind serial from end (d ∷ ds) rising there =
    by (is_kind d.kind kind) refl (λ later. between kind serial (next_from d from) end ds rising.1 later) where
      by : (b : Bool) → is_kind d.kind kind ≡ b → (has kind (kinds_of ds) ≡ true → IsBetween (next_from d from) end (number_for kind ds)) → IsBetween from end (number_for kind (d ∷ ds))
      by true is onward =
          let own : is_serial d.kind ≡ true = serial-kind d.kind kind is serial in
          let above : from ≤ d.number = rising.0 own in
          let up : next_from d from ≤ end = goes-up (next_from d from) end ds rising.1 in
          let next : next_from d from ≡ suc d.number = behind-serial from d own in
          let below : d.number < end = omega (arith, up, next) in
          subst (IsBetween from end) (sym (number-first kind d ds is)) (record { above = above; below = below })
      by false is onward =
          let rest : IsBetween (next_from d from) end (number_for kind ds) = onward (has-later kind d.kind (kinds_of ds) is there) in
          let on : from ≤ next_from d from = goes-on from d rising.0 in
          let above : next_from d from ≤ number_for kind ds = rest.above in
          subst (IsBetween from end) (sym (number-later kind d ds is)) (record { above = omega (arith, on, above); below = rest.below })

-- those of a read and of a write differ
pub differ : (from end : ℕ) (ds : List Draw) → RiseFrom from end ds → has Read (kinds_of ds) ≡ true → has Write (kinds_of ds) ≡ true → number_for Read ds ≢ number_for Write ds
differ from end [] rising read write = λ same. cc
differ from end (d ∷ ds) rising read write =
    by (is_kind d.kind Read) refl (is_kind d.kind Write) refl (λ r w. differ (next_from d from) end ds rising.1 r w) where
      by : (a : Bool) → is_kind d.kind Read ≡ a → (b : Bool) → is_kind d.kind Write ≡ b
          → (has Read (kinds_of ds) ≡ true → has Write (kinds_of ds) ≡ true → number_for Read ds ≢ number_for Write ds) → number_for Read (d ∷ ds) ≢ number_for Write (d ∷ ds)
      by true reads true writes onward same = grind (arith, nat_tests, reads, writes)
      by true reads false writes onward same =
          let next : next_from d from ≡ suc d.number = behind-serial from d (serial-kind d.kind Read reads refl) in
          let rest = between Write refl (next_from d from) end ds rising.1 (has-later Write d.kind (kinds_of ds) writes write) in
          let above : next_from d from ≤ number_for Write ds = rest.above in
          let is : d.number ≡ number_for Write ds = sym (number-first Read d ds reads) ∙ (same ∙ number-later Write d ds writes) in
          omega (arith, next, above, is)
      by false reads true writes onward same =
          let next : next_from d from ≡ suc d.number = behind-serial from d (serial-kind d.kind Write writes refl) in
          let rest = between Read refl (next_from d from) end ds rising.1 (has-later Read d.kind (kinds_of ds) reads read) in
          let above : next_from d from ≤ number_for Read ds = rest.above in
          let is : number_for Read ds ≡ d.number = sym (number-later Read d ds reads) ∙ (same ∙ number-first Write d ds writes) in
          omega (arith, next, above, is)
      by false reads false writes onward same =
          onward (has-later Read d.kind (kinds_of ds) reads read) (has-later Write d.kind (kinds_of ds) writes write)
          (sym (number-later Read d ds reads) ∙ (same ∙ number-later Write d ds writes))

or-right : (x y : Bool) → y ≡ true → (x || y) ≡ true
or-right true y is = refl
or-right false y is = is

has-right : (kind : DrawKind) (a b : List DrawKind) → has kind b ≡ true → has kind (a ++ b) ≡ true
has-right kind [] b there = there
has-right kind (k ∷ ks) b there = or-right (is_kind k kind) (has kind (ks ++ b)) (has-right kind ks b there)

-- the nonce of a write is drawn for each order, and that of a read where it has a cookie
pub write-in : (o : Order) → has Write (drawn_for o) ≡ true
unfolding drawn_for
write-in o =
    has-right Write (where_so (is_none o.number) (Request ∷ [])) _ (has-right Write (where_so (shows_form o.action) (Token ∷ [])) _
    (has-right Write (where_so (begins_session o) (KeyWord ∷ KeyWord ∷ [])) _ (has-right Write (Fresh ∷ where_so (is_some o.cookie) (Read ∷ [])) (Write ∷ []) refl)))

pub read-in : (o : Order) (cookie : Cookie) → o.cookie ≡ Some cookie → has Read (drawn_for o) ≡ true
unfolding drawn_for
read-in o cookie is =
    has-right Read (where_so (is_none o.number) (Request ∷ [])) _ (has-right Read (where_so (shows_form o.action) (Token ∷ [])) _
    (has-right Read (where_so (begins_session o) (KeyWord ∷ KeyWord ∷ [])) _
    (subst (λ (c : Option Cookie). has Read (Fresh ∷ where_so (is_some c) (Read ∷ []) ++ (Write ∷ [])) ≡ true) (sym is) refl)))
