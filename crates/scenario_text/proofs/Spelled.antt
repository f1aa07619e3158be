-- The law of the lines: what spells one, is read as it, and nothing else.
use Rattle.std.proofs.Common.{◌≡◌, ◌≢◌, ◌↔◌, ◌<◌, ◌≤◌, ◌⊎◌, inl, inr, ℕ, ◌==◌, Bool, true, false, cond, nat_lt, List, [], ◌∷◌, length, Option, Some, None, option_and_then, codes, refl, ap, sym, ◌∙◌, arith}
use Rattle.std.specs.Bool.{Decides}
use Rattle.std.specs.Option.{option_map, option_or}
use Rattle.std.proofs.lemmas.Bool.{and_parts}
use Rattle.std.specs.Fmt.{decimal}
use Rattle.std.specs.List.{All, join_with_byte, list_all}
use Rattle.std.proofs.lemmas.Bool.Decides.{nat_tests, Decides-by_and}
use Rattle.std.proofs.lemmas.List.Splits.{join_with_byte-slice_split}
use Rattle.scenario_text.specs.declared.line.TheConstants.{MAX_LINE_BYTES}
use Rattle.scenario_text.specs.Fields.{decimal_number, caller_number, hex_bytes}
use Rattle.scenario_text.specs.Texts.{hex_text}
use Rattle.scenario_text.specs.Words.{words_of, four_words}
use Rattle.scenario_text.specs.Reading.{line_of, line_of_words, head_line, event_line, call_or_other, call_line, boot_or_other, session_or_seat, boot_line, put_line, passes, is_comment_byte}
use Rattle.scenario_text.specs.Spelling.{Spells, IsInRange, IsHeadInRange, IsCallInRange, IsBootInRange, IsComment, spelling, words_of_line, words_of_head_line, words_of_call_line, words_of_boot_line}
use Rattle.scenario_text.specs.Arguments.{some_names}
use Rattle.scenario_text.specs.FieldSpelling.{IsCaller, AreNames, caller_word, kind_word, level_word}
use Rattle.scenario_text.specs.SeatReading.{seat_line}
use Rattle.scenario_text.specs.SessionReading.{session_line}
use Rattle.scenario_text.specs.declared.line.Line.{Line}
use Rattle.scenario_text.specs.declared.line.Line.TheVariants.{Pass, Head, Call, Commit, Boot, Reopen, Session, Seat}
use Rattle.scenario_text.specs.declared.head_line.HeadLine.{HeadLine}
use Rattle.scenario_text.specs.declared.head_line.HeadLine.TheVariants.{Component, Hard, Soft, Owns, Fault, Limit, Bricks, Key, Site}
use Rattle.scenario_text.specs.declared.call_line.CallLine.{CallLine}
use Rattle.scenario_text.specs.declared.call_line.CallLine.TheVariants.{Enter, Exit, Read, List as ListLine, Put}
use Rattle.scenario_text.specs.declared.boot_line.BootLine.{BootLine}
use Rattle.scenario_text.specs.declared.boot_line.BootLine.TheVariants.{Begin, Drop, Down, Up, Reboot, Table, Journal, Report}
use Rattle.crash_base.proofs.Options.{then_some, map_some}
use Rattle.scenario_text.proofs.Splits.{words_joined}
use Rattle.scenario_text.proofs.WordKinds.{names, numbers, callers, texts, faults, levels, bytes, four_are}
use Rattle.scenario_text.proofs.NameLists.{some_spelled, names_read, names_whole}
use Rattle.scenario_text.proofs.LineForms.{Grammar, AreWords, same_line, form, made_words, no_form, one_form, two_form, three_form, four_form}
use Rattle.scenario_text.proofs.LineReads.{IsRead, no_read, one_read, two_read}
use Rattle.scenario_text.proofs.SeatSpelled.{seat_spelled, seat_read}
use Rattle.scenario_text.proofs.SessionSpelled.{one_of, session_spelled, session_read}

abbrev lines : Grammar Line
lines = record { IsIn = IsInRange; words = words_of_line }

abbrev heads : Grammar HeadLine
heads = record { IsIn = IsHeadInRange; words = words_of_head_line }

abbrev calls : Grammar (ℕ × CallLine)
calls = record { IsIn = λ p. IsCaller p.0 × IsCallInRange p.1; words = λ p. words_of_call_line p.0 p.1 }

abbrev boots : Grammar BootLine
boots = record { IsIn = IsBootInRange; words = words_of_boot_line }

-- the words of a put
words_put : (words : List (List ℕ)) (c t k : ℕ) (b caller table key hex : List ℕ) → words ≡ caller ∷ table ∷ key ∷ hex ∷ [] → caller ≡ caller_word c → table ≡ decimal t → key ≡ decimal k → hex ≡ hex_text b → codes "put" ∷ words ≡ words_of_call_line c (Put t k b)
words_put words c t k b caller table key hex e ce te ke be = rw (e, ce, te, ke, be) refl

put_spelled : (words : List (List ℕ)) (line : ℕ × CallLine) → put_line words ≡ Some line → AreWords calls (codes "put" ∷ words) line
put_spelled words line h =
    let (w, we, h0) = then_some (λ w. option_and_then (λ c. option_and_then (λ t. option_and_then (λ k. option_map (λ b. (c, Put t k b)) (hex_bytes w.3)) (decimal_number w.2)) (decimal_number w.1)) (caller_number w.0)) (four_words words) line h in
    let (c, ce, h1) = then_some (λ c. option_and_then (λ t. option_and_then (λ k. option_map (λ b. (c, Put t k b)) (hex_bytes w.3)) (decimal_number w.2)) (decimal_number w.1)) (caller_number w.0) line h0 in
    let (t, te, h2) = then_some (λ t. option_and_then (λ k. option_map (λ b. (c, Put t k b)) (hex_bytes w.3)) (decimal_number w.2)) (decimal_number w.1) line h1 in
    let (k, ke, h3) = then_some (λ k. option_map (λ b. (c, Put t k b)) (hex_bytes w.3)) (decimal_number w.2) line h2 in
    let (b, be, h4) = map_some (λ b. (c, Put t k b)) (hex_bytes w.3) line h3 in
    let cn = callers.spelled w.0 c ce in
    let tn = numbers.spelled w.1 t te in
    let kn = numbers.spelled w.2 k ke in
    let bn = bytes.spelled w.3 b be in
    same_line calls (codes "put" ∷ words) (c, Put t k b) line h4 ((cn.1, (tn.1, kn.1, bn.1)), words_put words c t k b w.0 w.1 w.2 w.3 (four_are words w we) cn.0 tn.0 kn.0 bn.0)

-- what words read as, they spell: a line of the head
head_spelled : (first : List ℕ) (words : List (List ℕ)) (line : HeadLine) → head_line first words ≡ Some line → AreWords heads (first ∷ words) line
head_spelled first words line h =
    one_form heads names (codes "component") (λ n. Component n) (λ _ r. (r, refl)) first words line _ (
    two_form heads names names (codes "hard") (λ p. Hard p.0 p.1) (λ _ r. (r, refl)) first words line _ (
    two_form heads names names (codes "soft") (λ p. Soft p.0 p.1) (λ _ r. (r, refl)) first words line _ (
    two_form heads names numbers (codes "owns") (λ p. Owns p.0 p.1) (λ _ r. (r, refl)) first words line _ (
    four_form heads names numbers faults levels (codes "fault") (λ p. Fault p.0 p.1.0 p.1.1.0 p.1.1.1) (λ _ r. ((r.0, r.1, r.2), refl)) first words line _ (
    two_form heads numbers numbers (codes "limit") (λ p. Limit p.0 p.1) (λ _ r. (r, refl)) first words line _ (
    three_form heads numbers numbers numbers (codes "bricks") (λ p. Bricks p.0 p.1.0 p.1.1) (λ _ r. (r, refl)) first words line _ (
    one_form heads bytes (codes "key") (λ b. Key b) (λ _ r. (r, refl)) first words line _ (
    no_form heads (codes "site") Site (tt, refl) first words line _ (
    λ k. cc))))))))) h

-- a line of a live call
call_spelled : (first : List ℕ) (words : List (List ℕ)) (line : ℕ × CallLine) → call_line first words ≡ Some line → AreWords calls (first ∷ words) line
call_spelled first words line h =
    two_form calls callers names (codes "enter") (λ p. (p.0, Enter p.1)) (λ _ r. (r, refl)) first words line _ (
    one_form calls callers (codes "exit") (λ c. (c, Exit)) (λ _ r. ((r, tt), refl)) first words line _ (
    three_form calls callers numbers numbers (codes "read") (λ p. (p.0, Read p.1.0 p.1.1)) (λ _ r. ((r.0, (r.1, r.2)), refl)) first words line _ (
    two_form calls callers numbers (codes "list") (λ p. (p.0, ListLine p.1)) (λ _ r. (r, refl)) first words line _ (
    form calls (codes "put") first words line _ _ (put_spelled words line) (
    λ k. cc))))) h

-- a line over the boot
boot_spelled : (first : List ℕ) (words : List (List ℕ)) (line : BootLine) → boot_line first words ≡ Some line → AreWords boots (first ∷ words) line
boot_spelled first words line h =
    one_form boots callers (codes "begin") (λ c. Begin c) (λ _ r. (r, refl)) first words line _ (
    one_form boots callers (codes "drop") (λ c. Drop c) (λ _ r. (r, refl)) first words line _ (
    one_form boots texts (codes "down") (λ t. Down t) (λ _ r. (r, refl)) first words line _ (
    one_form boots texts (codes "up") (λ t. Up t) (λ _ r. (r, refl)) first words line _ (
    one_form boots texts (codes "reboot") (λ t. Reboot t) (λ _ r. (r, refl)) first words line _ (
    no_form boots (codes "table") Table (tt, refl) first words line _ (
    no_form boots (codes "journal") Journal (tt, refl) first words line _ (
    form boots (codes "report") first words line _ _ (made_words boots (codes "report") (λ n. Report n) (λ n. n) AreNames (λ _ r. (r, refl)) words line (some_names words) (some_spelled words)) (
    λ k. cc)))))))) h

-- a line of one group, which is made a line
of_group : {S : Type 0} (mk : S → Line) (words : List (List ℕ)) (line : Line) (o : Option S) → ((s : S) → o ≡ Some s → AreWords lines words (mk s)) → option_map mk o ≡ Some line → AreWords lines words line
of_group mk words line o each h =
    let (s, e, made) = map_some mk o line h in
    same_line lines words (mk s) line made (each s e)

session_or_seat_spelled : (first : List ℕ) (words : List (List ℕ)) (line : Line) → session_or_seat first words ≡ Some line → AreWords lines (first ∷ words) line
session_or_seat_spelled first words line h = go (one_of (option_map (λ s. Session s) (session_line first words)) (option_map (λ s. Seat s) (seat_line first words)) line h)
  where
    go : (option_map (λ s. Session s) (session_line first words) ≡ Some line) ⊎ (option_map (λ s. Seat s) (seat_line first words) ≡ Some line) → AreWords lines (first ∷ words) line
    go (inl k) = of_group (λ s. Session s) (first ∷ words) line (session_line first words) (session_spelled first words) k
    go (inr k) = of_group (λ s. Seat s) (first ∷ words) line (seat_line first words) (seat_spelled first words) k

boot_or_other_spelled : (first : List ℕ) (words : List (List ℕ)) (line : Line) → boot_or_other first words ≡ Some line → AreWords lines (first ∷ words) line
boot_or_other_spelled first words line h = go (one_of (option_map (λ b. Boot b) (boot_line first words)) (session_or_seat first words) line h)
  where
    go : (option_map (λ b. Boot b) (boot_line first words) ≡ Some line) ⊎ (session_or_seat first words ≡ Some line) → AreWords lines (first ∷ words) line
    go (inl k) = of_group (λ b. Boot b) (first ∷ words) line (boot_line first words) (boot_spelled first words) k
    go (inr k) = session_or_seat_spelled first words line k

call_or_other_spelled : (first : List ℕ) (words : List (List ℕ)) (line : Line) → call_or_other first words ≡ Some line → AreWords lines (first ∷ words) line
call_or_other_spelled first words line h = go (one_of (option_map (λ p. Call p.0 p.1) (call_line first words)) (boot_or_other first words) line h)
  where
    go : (option_map (λ p. Call p.0 p.1) (call_line first words) ≡ Some line) ⊎ (boot_or_other first words ≡ Some line) → AreWords lines (first ∷ words) line
    go (inl k) = of_group (λ p. Call p.0 p.1) (first ∷ words) line (call_line first words) (call_spelled first words) k
    go (inr k) = boot_or_other_spelled first words line k

event_spelled : (first : List ℕ) (words : List (List ℕ)) (line : Line) → event_line first words ≡ Some line → AreWords lines (first ∷ words) line
event_spelled first words line h =
    one_form lines callers (codes "commit") (λ c. Commit c) (λ _ r. (r, refl)) first words line _ (
    no_form lines (codes "reopen") Reopen (tt, refl) first words line _ (
    call_or_other_spelled first words line)) h

-- what words read as, they spell
words_spelled : (words : List (List ℕ)) (line : Line) → line_of_words words ≡ Some line → AreWords lines words line
words_spelled [] line h = cc
words_spelled (first ∷ words) line h = go (one_of (option_map (λ l. Head l) (head_line first words)) (event_line first words) line h)
  where
    go : (option_map (λ l. Head l) (head_line first words) ≡ Some line) ⊎ (event_line first words ≡ Some line) → AreWords lines (first ∷ words) line
    go (inl k) = of_group (λ l. Head l) (first ∷ words) line (head_line first words) (head_spelled first words) k
    go (inr k) = event_spelled first words line k

-- the test of a byte of a comment decides what the grammar says of it, and so for comments
comment_byte_decides : (b : ℕ) → Decides (is_comment_byte b) ((b < 128) × (b ≢ 13))
comment_byte_decides b = (λ h. grind (arith, nat_tests), λ h. grind (arith, nat_tests))

comment_bytes_decide : (bs : List ℕ) → Decides (list_all is_comment_byte bs) (All (λ b. (b < 128) × (b ≢ 13)) bs)
comment_bytes_decide bs = Decides-by_and is_comment_byte (λ b. (b < 128) × (b ≢ 13)) (list_all is_comment_byte) comment_byte_decides refl (λ _ _. refl) bs

-- a line that passes is empty or a comment
passed_spelled : (text : List ℕ) → passes text ≡ true → (text ≡ []) ⊎ IsComment text
passed_spelled [] h = inl refl
passed_spelled (b ∷ bs) h =
    let g = and_parts (b == 35) (list_all is_comment_byte bs) h in
    let mark : b ≡ 35 = grind (arith, nat_tests) in
    inr (bs, ap (λ x. x ∷ bs) mark, (comment_bytes_decide bs).0 g.1)

-- and a comment passes
comment_passes : (text : List ℕ) → IsComment text → passes text ≡ true
comment_passes text (rest, e, each) = rw (e, (comment_bytes_decide rest).1 each) refl

-- what a line reads as, its text spells
line_spelled : (text : List ℕ) (line : Line) → line_of text ≡ Some line → Spells text line
unfolding line_of
line_spelled text line h =
    let read : (b : Bool) → passes text ≡ b → length text ≤ MAX_LINE_BYTES → cond b (Some Pass) (line_of_words (words_of text)) ≡ Some line → Spells text line = elim [
      | true ↦ λ e few k.
          let here : Pass ≡ line = cc in
          let P : Line → Type 0 = λ l. Spells text l in
          let go : (text ≡ []) ⊎ IsComment text → Spells text Pass = elim [ inl none ↦ (few, tt, inl none) | inr comment ↦ (few, tt, inr (refl, comment)) ] in
          rw (← here) (go (passed_spelled text e))
      | false ↦ λ e few k.
          let w = words_spelled (words_of text) line k in
          (few, w.0, inl (sym (join_with_byte-slice_split 32 text) ∙ ap (join_with_byte 32) w.1))
    ] in
    let short : (b : Bool) → nat_lt MAX_LINE_BYTES (length text) ≡ b → cond b None (cond (passes text) (Some Pass) (line_of_words (words_of text))) ≡ Some line → Spells text line = elim [
      | true ↦ λ e k. cc
      | false ↦ λ e k. let few : length text ≤ MAX_LINE_BYTES = grind (arith, nat_tests) in read (passes text) refl few k
    ] in
    short (nat_lt MAX_LINE_BYTES (length text)) refl h

-- a line that spells such words is read as theirs
read_short : (text : List ℕ) (line : Line) → length text ≤ MAX_LINE_BYTES → text ≡ spelling line → IsRead line → line_of text ≡ Some line
unfolding line_of
read_short text line few e r =
    let short : nat_lt MAX_LINE_BYTES (length text) ≡ false = grind (arith, nat_tests) in
    let p : passes text ≡ false = ap passes e ∙ r.0 in
    rw (short, p) (ap (λ t. line_of_words (words_of t)) e ∙ ap line_of_words r.1 ∙ r.2)

-- a line that passes is read so
passed_read : (text : List ℕ) → length text ≤ MAX_LINE_BYTES → passes text ≡ true → line_of text ≡ Some Pass
unfolding line_of
passed_read text few p = let short : nat_lt MAX_LINE_BYTES (length text) ≡ false = grind (arith, nat_tests) in rw (short, p) refl

-- what is read, as a line of its group
abbrev as_head : {A : Type 0} → (A → HeadLine) → Option A → Option Line
as_head mk o = option_or (option_map (λ l. Head l) (option_map mk o)) None

abbrev as_call : {A : Type 0} → (A → ℕ × CallLine) → Option A → Option Line
as_call mk o = option_or (option_map (λ p. Call p.0 p.1) (option_map mk o)) None

abbrev as_boot : {A : Type 0} → (A → BootLine) → Option A → Option Line
as_boot mk o = option_or (option_map (λ l. Boot l) (option_map mk o)) None

-- a line is read from its spelling: one of the head
head_read : (line : HeadLine) → IsHeadInRange line → IsRead (Head line)
head_read (Component name) h = one_read names (Head (Component name)) (codes "component") name h (as_head (λ a. Component a)) refl refl refl refl refl
head_read (Hard name other) (h, k) = two_read names names (Head (Hard name other)) (codes "hard") name other h k (as_head (λ p. Hard p.0 p.1)) refl refl refl refl refl
head_read (Soft name other) (h, k) = two_read names names (Head (Soft name other)) (codes "soft") name other h k (as_head (λ p. Soft p.0 p.1)) refl refl refl refl refl
head_read (Owns name table) (h, k) = two_read names numbers (Head (Owns name table)) (codes "owns") name table h k (as_head (λ p. Owns p.0 p.1)) refl refl refl refl refl
head_read (Fault name after kind level) (n, a, k) = (refl, words_joined (codes "fault") (name ∷ decimal after ∷ kind_word kind ∷ level_word level ∷ []) refl (names.whole name n, (numbers.whole after a, (faults.whole kind k, (levels.whole level tt, tt)))), rw (names.read name n, numbers.read after a, faults.read kind k, levels.read level tt) refl)
head_read (Limit entries room) (h, k) = two_read numbers numbers (Head (Limit entries room)) (codes "limit") entries room h k (as_head (λ p. Limit p.0 p.1)) refl refl refl refl refl
head_read (Bricks bricks most least) (h, k, l) = (refl, words_joined (codes "bricks") (decimal bricks ∷ decimal most ∷ decimal least ∷ []) refl (numbers.whole bricks h, (numbers.whole most k, (numbers.whole least l, tt))), rw (numbers.read bricks h, numbers.read most k, numbers.read least l) refl)
head_read (Key key) h = one_read bytes (Head (Key key)) (codes "key") key h (as_head (λ a. Key a)) refl refl refl refl refl
head_read Site h = no_read (Head Site) (codes "site") refl refl refl refl

-- one of a live call
call_read : (caller : ℕ) (line : CallLine) → IsCaller caller → IsCallInRange line → IsRead (Call caller line)
call_read caller (Enter name) h k = two_read callers names (Call caller (Enter name)) (codes "enter") caller name h k (as_call (λ p. (p.0, Enter p.1))) refl refl refl refl refl
call_read caller Exit h k = one_read callers (Call caller Exit) (codes "exit") caller h (as_call (λ a. (a, Exit))) refl refl refl refl refl
call_read caller (Read table key) h (t, k) = (refl, words_joined (codes "read") (caller_word caller ∷ decimal table ∷ decimal key ∷ []) refl (callers.whole caller h, (numbers.whole table t, (numbers.whole key k, tt))), rw (callers.read caller h, numbers.read table t, numbers.read key k) refl)
call_read caller (ListLine table) h k = two_read callers numbers (Call caller (ListLine table)) (codes "list") caller table h k (as_call (λ p. (p.0, ListLine p.1))) refl refl refl refl refl
call_read caller (Put table key row) h (t, k, b) = (refl, words_joined (codes "put") (caller_word caller ∷ decimal table ∷ decimal key ∷ hex_text row ∷ []) refl (callers.whole caller h, (numbers.whole table t, (numbers.whole key k, (bytes.whole row b, tt)))), rw (callers.read caller h, numbers.read table t, numbers.read key k, bytes.read row b) refl)

-- one over the boot
boot_read : (line : BootLine) → IsBootInRange line → IsRead (Boot line)
boot_read (Begin caller) h = one_read callers (Boot (Begin caller)) (codes "begin") caller h (as_boot (λ a. Begin a)) refl refl refl refl refl
boot_read (Drop caller) h = one_read callers (Boot (Drop caller)) (codes "drop") caller h (as_boot (λ a. Drop a)) refl refl refl refl refl
boot_read (Down word) h = one_read texts (Boot (Down word)) (codes "down") word h (as_boot (λ a. Down a)) refl refl refl refl refl
boot_read (Up word) h = one_read texts (Boot (Up word)) (codes "up") word h (as_boot (λ a. Up a)) refl refl refl refl refl
boot_read (Reboot word) h = one_read texts (Boot (Reboot word)) (codes "reboot") word h (as_boot (λ a. Reboot a)) refl refl refl refl refl
boot_read Table h = no_read (Boot Table) (codes "table") refl refl refl refl
boot_read Journal h = no_read (Boot Journal) (codes "journal") refl refl refl refl
boot_read (Report []) (some, each) = absurd (omega arith)
boot_read (Report (name ∷ more)) (some, each) = (refl, words_joined (codes "report") (name ∷ more) refl (names_whole (name ∷ more) each), rw (names_read (name ∷ more) each) refl)

-- the spelling of a line is read as that line
spelling_read : (text : List ℕ) (line : Line) → length text ≤ MAX_LINE_BYTES → IsInRange line → text ≡ spelling line → line_of text ≡ Some line
spelling_read text Pass few h e = passed_read text few (ap passes e)
spelling_read text (Head line) few h e = read_short text (Head line) few e (head_read line h)
spelling_read text (Call caller line) few (h, k) e = read_short text (Call caller line) few e (call_read caller line h k)
spelling_read text (Commit caller) few h e = read_short text (Commit caller) few e (one_read callers (Commit caller) (codes "commit") caller h (option_map (λ a. Commit a)) refl refl refl refl refl)
spelling_read text (Boot line) few h e = read_short text (Boot line) few e (boot_read line h)
spelling_read text Reopen few h e = read_short text Reopen few e (no_read Reopen (codes "reopen") refl refl refl refl)
spelling_read text (Session line) few h e = read_short text (Session line) few e (session_read line h)
spelling_read text (Seat line) few h e = read_short text (Seat line) few e (seat_read line h)

-- what a text spells, it is read as
spelled_read : (text : List ℕ) (line : Line) → Spells text line → line_of text ≡ Some line
spelled_read text line (few, h, inl e) = spelling_read text line few h e
spelled_read text line (few, h, inr (e, comment)) = rw e (passed_read text few (comment_passes text comment))

-- the law of lines
pub line_law : (text : List ℕ) (line : Line) → (line_of text ≡ Some line) ↔ Spells text line
line_law text line = (line_spelled text line, spelled_read text line)

-- a line that was read is in its ranges
pub line_in_range : (text : List ℕ) (line : Line) → line_of text ≡ Some line → IsInRange line
line_in_range text line h = (line_spelled text line h).1
