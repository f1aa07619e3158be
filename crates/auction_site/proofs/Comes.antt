-- Each piece of a plan comes to what the site finds.
use Rattle.std.proofs.Common.{◌≡◌, ℕ, zero, suc, Bool, true, false, cond, List, [], ◌∷◌, length, map, Option, Some, None, Ok, Err, refl, ap, sym, ◌∙◌}
use Rattle.crash_base.specs.declared.row_id.RowId.{RowId}
use Rattle.crash_base.specs.declared.rows.RowWrite.{RowWrite}
use Rattle.crash_base.specs.Rows.{row_in}
use Rattle.journal_model.specs.declared.entry.DoneText.{DoneText}
use Rattle.journal_model.specs.Snapshots.{table_rows}
use Rattle.action_plans.specs.declared.plan.Outcome.{Outcome}
use Rattle.action_plans.specs.declared.plan.Through.{Through}
use Rattle.action_plans.specs.Plans.{Plan, Asks, Gives, Refuses, answer_to, ◌>>=◌}
use Rattle.action_plans.specs.Steps.{outcome, reaches, table_of}
use Rattle.auction_rows.specs.Parts.{site_parts}
use Rattle.auction_rows.specs.declared.rows.CounterRow.{CounterRow}
use Rattle.auction_rows.specs.Reading.{counter_of}
use Rattle.auction_rules.specs.declared.refusal.RuleRefusal.{RuleRefusal}
use Rattle.auction_site.specs.Found.{Found, and_then, refused_if, refused_by, spelled, spelled_or, row_or, absent, no_row, counted, the_counter, collected, finished}
use Rattle.auction_site.specs.Pieces.{refuses_if, refuses_by, decoded, decoded_or, asks_row_or, none_decoded, asks_no_row, count_decoded, asks_counter, asks_table, asks_each}

-- in so many accesses a plan comes to what the site finds
abbrev pub Comes : ℕ → Option Through → List RowWrite → Plan Outcome → Found Outcome → Type 0
Comes n through rows plan found = outcome n site_parts through rows plan ≡ Some (finished found)

pub refuses_if_comes : (n : ℕ) (through : Option Through) (rows : List RowWrite) (test : Bool) (done : DoneText)
    (f : Unit {0} → Plan Outcome) (g : Unit {0} → Found Outcome)
    → (test ≡ false → Comes n through rows (f tt) (g tt))
    → Comes n through rows (refuses_if test done >>= f) (and_then (refused_if test done) g)
unfolding refuses_if ◌>>=◌
refuses_if_comes n through rows true done f g later = refl
refuses_if_comes n through rows false done f g later = later refl

pub refuses_by_comes : (n : ℕ) (through : Option Through) (rows : List RowWrite) (refusal : Option RuleRefusal)
    (f : Unit {0} → Plan Outcome) (g : Unit {0} → Found Outcome)
    → (refusal ≡ None → Comes n through rows (f tt) (g tt))
    → Comes n through rows (refuses_by refusal >>= f) (and_then (refused_by refusal) g)
unfolding refuses_by ◌>>=◌
refuses_by_comes n through rows None f g later = later refl
refuses_by_comes n through rows (Some refusal) f g later = refl

pub reads_comes : {T : Type 0} (n : ℕ) (through : Option Through) (rows : List RowWrite) (id : RowId) (row : Option T)
    (f : T → Plan Outcome) (g : T → Found Outcome)
    → ((x : T) → row ≡ Some x → Comes n through rows (f x) (g x))
    → Comes n through rows (decoded id row >>= f) (and_then (spelled id row) g)
unfolding decoded ◌>>=◌
reads_comes n through rows id None f g later = refl
reads_comes n through rows id (Some x) f g later = later x refl

reads_or_comes : {T : Type 0} (n : ℕ) (through : Option Through) (rows : List RowWrite) (spells : List ℕ → Option T) (id : RowId)
    (missing : DoneText) (bytes : Option (List ℕ)) (f : T → Plan Outcome) (g : T → Found Outcome)
    → ((bytes : List ℕ) (x : T) → spells bytes ≡ Some x → Comes n through rows (f x) (g x))
    → Comes n through rows (decoded_or spells id missing bytes >>= f) (and_then (spelled_or spells id missing bytes) g)
unfolding decoded_or ◌>>=◌
reads_or_comes n through rows spells id missing None f g later = refl
reads_or_comes n through rows spells id missing (Some bytes) f g later =
    reads_comes n through rows id (spells bytes) f g (later bytes)

pub row_comes : {T : Type 0} (n : ℕ) (through : Option Through) (rows : List RowWrite) (spells : List ℕ → Option T) (id : RowId)
    (missing : DoneText) (f : T → Plan Outcome) (g : T → Found Outcome)
    → reaches site_parts through id.table ≡ true
    → ((bytes : List ℕ) (x : T) → spells bytes ≡ Some x → Comes n through rows (f x) (g x))
    → Comes (suc n) through rows (asks_row_or spells id missing >>= f) (and_then (row_or rows spells id missing) g)
unfolding asks_row_or ◌>>=◌
row_comes n through rows spells id missing f g can later =
    rw can (reads_or_comes n through rows spells id missing (row_in rows id) f g later)

reads_none_comes : {T : Type 0} (n : ℕ) (through : Option Through) (rows : List RowWrite) (spells : List ℕ → Option T) (id : RowId)
    (there : DoneText) (bytes : Option (List ℕ)) (f : Unit {0} → Plan Outcome) (g : Unit {0} → Found Outcome)
    → Comes n through rows (f tt) (g tt)
    → Comes n through rows (none_decoded spells id there bytes >>= f) (and_then (absent spells id there bytes) g)
unfolding none_decoded decoded ◌>>=◌
reads_none_comes n through rows spells id there None f g later = later
reads_none_comes {T = T} n through rows spells id there (Some bytes) f g later = by_row (spells bytes)
  where
    by_row : (row : Option T)
        → Comes n through rows ((decoded id row >>= λ x. Refuses there) >>= f) (and_then (and_then (spelled id row) (λ x. Err there)) g)
    by_row None = refl
    by_row (Some x) = refl

pub no_row_comes : {T : Type 0} (n : ℕ) (through : Option Through) (rows : List RowWrite) (spells : List ℕ → Option T) (id : RowId)
    (there : DoneText) (f : Unit {0} → Plan Outcome) (g : Unit {0} → Found Outcome)
    → reaches site_parts through id.table ≡ true
    → Comes n through rows (f tt) (g tt)
    → Comes (suc n) through rows (asks_no_row spells id there >>= f) (and_then (no_row rows spells id there) g)
unfolding asks_no_row ◌>>=◌
no_row_comes n through rows spells id there f g can later =
    rw can (reads_none_comes n through rows spells id there (row_in rows id) f g later)

reads_count_comes : (n : ℕ) (through : Option Through) (rows : List RowWrite) (id : RowId) (bytes : Option (List ℕ))
    (f : ℕ → Plan Outcome) (g : ℕ → Found Outcome)
    → ((x : ℕ) → Comes n through rows (f x) (g x))
    → Comes n through rows (count_decoded id bytes >>= f) (and_then (counted id bytes) g)
unfolding count_decoded decoded ◌>>=◌
reads_count_comes n through rows id None f g later = later 0
reads_count_comes n through rows id (Some bytes) f g later = by_row (counter_of bytes)
  where
    by_row : (row : Option CounterRow)
        → Comes n through rows ((decoded id row >>= λ x. Gives x.count) >>= f) (and_then (and_then (spelled id row) (λ x. Ok x.count)) g)
    by_row None = refl
    by_row (Some x) = later x.count

pub counter_comes : (n : ℕ) (through : Option Through) (rows : List RowWrite) (id : RowId)
    (f : ℕ → Plan Outcome) (g : ℕ → Found Outcome)
    → reaches site_parts through id.table ≡ true
    → ((x : ℕ) → Comes n through rows (f x) (g x))
    → Comes (suc n) through rows (asks_counter id >>= f) (and_then (the_counter rows id) g)
unfolding asks_counter ◌>>=◌
counter_comes n through rows id f g can later =
    rw can (reads_count_comes n through rows id (row_in rows id) f g later)

pub table_comes : (n : ℕ) (through : Option Through) (rows : List RowWrite) (table : ℕ)
    (f : List RowWrite → Plan Outcome) (found : Found Outcome)
    → reaches site_parts through table ≡ true
    → Comes n through rows (f (table_rows table rows)) found
    → Comes (suc n) through rows (asks_table table >>= f) found
unfolding asks_table ◌>>=◌
table_comes n through rows table f found can later = rw can later

-- plans that are joined one way or the other come to the same
pub joined : {A B : Type 0} (n : ℕ) (through : Option Through) (rows : List RowWrite) (plan : Plan A) (f : A → Plan B) (g : B → Plan Outcome)
    → outcome n site_parts through rows ((plan >>= f) >>= g) ≡ outcome n site_parts through rows (plan >>= λ x. f x >>= g)
unfolding ◌>>=◌
joined n through rows (Refuses done) f g = refl
joined n through rows (Gives x) f g = refl
joined zero through rows (Asks m go) f g = refl
joined (suc n) through rows (Asks m go) f g =
    ap (λ o. cond (reaches site_parts through (table_of m)) o None) (joined n through rows (go (answer_to rows m)) f g)

-- and so it is with what is found
pub found_joined : {A B C : Type 0} (found : Found A) (f : A → Found B) (g : B → Found C)
    → and_then (and_then found f) g ≡ and_then found (λ x. and_then (f x) g)
found_joined (Ok x) f g = refl
found_joined (Err done) f g = refl

-- so many accesses for each of so many, and then the others
unfoldable pub spent : (ℕ → ℕ) → ℕ → ℕ → ℕ
spent more zero n = n
spent more (suc k) n = more (spent more k n)

-- A plan for each of a list comes to what the site finds for each, where each of the plans does.
pub each_comes : {A B : Type 0} (more : ℕ → ℕ) (through : Option Through) (rows : List RowWrite) (plan : A → Plan B) (site : A → Found B)
    → ((x : A) (n : ℕ) (f : B → Plan Outcome) (g : B → Found Outcome)
    → ((y : B) → Comes n through rows (f y) (g y)) → Comes (more n) through rows (plan x >>= f) (and_then (site x) g))
    → (n : ℕ) (xs : List A) (f : List B → Plan Outcome) (g : List B → Found Outcome)
    → ((ys : List B) → Comes n through rows (f ys) (g ys))
    → Comes (spent more (length xs) n) through rows (asks_each plan xs >>= f) (and_then (collected (map site xs)) g)
unfolding asks_each ◌>>=◌ spent
each_comes more through rows plan site one n [] f g later = later []
each_comes {B = B} more through rows plan site one n (x ∷ xs) f g later =
    let others = λ (y : B).
    joined (spent more (length xs) n) through rows (asks_each plan xs) (λ ys. Gives (y ∷ ys)) f
    ∙ each_comes more through rows plan site one n xs (λ ys. f (y ∷ ys)) (λ ys. g (y ∷ ys)) (λ ys. later (y ∷ ys))
    ∙ ap (λ (found : Found Outcome). Some (finished found))
    (sym (found_joined (collected (map site xs)) (λ ys. Ok (y ∷ ys)) g)) in
    joined (more (spent more (length xs) n)) through rows (plan x) (λ y. asks_each plan xs >>= λ ys. Gives (y ∷ ys)) f
    ∙ one x (spent more (length xs) n) (λ y. (asks_each plan xs >>= λ ys. Gives (y ∷ ys)) >>= f)
    (λ y. and_then (and_then (collected (map site xs)) (λ ys. Ok (y ∷ ys))) g) others
    ∙ ap (λ (found : Found Outcome). Some (finished found))
    (sym (found_joined (site x) (λ y. and_then (collected (map site xs)) (λ ys. Ok (y ∷ ys))) g))

-- a plan of two plans comes to what the site finds by two findings
pub join_comes : {A B : Type 0} (n : ℕ) (through : Option Through) (rows : List RowWrite) (plan : Plan A) (f : A → Plan B) (g : B → Plan Outcome)
    (found : Found A) (after : A → Found B) (last : B → Found Outcome)
    → Comes n through rows (plan >>= λ x. f x >>= g) (and_then found (λ x. and_then (after x) last))
    → Comes n through rows ((plan >>= f) >>= g) (and_then (and_then found after) last)
join_comes n through rows plan f g found after last comes =
    joined n through rows plan f g ∙ comes
    ∙ ap (λ (o : Found Outcome). Some (finished o)) (sym (found_joined found after last))
