-- The laws of texts: what is read the text spells, and what a call spells is read as it.
use Rattle.std.proofs.Common.{◌≡◌, ◌↔◌, ℕ, ◌==◌, ◌&&◌, ◌^◌, ◌<◌, true, cond, nat_lt, nat_le, List, [], ◌∷◌, ◌++◌, length, Option, Some, None, refl, sym, ap, subst, ◌∙◌, append_assoc, arith}
use Rattle.std.specs.Option.{option_map}
use Rattle.std.proofs.lemmas.Bool.{and_parts}
use Rattle.std.proofs.lemmas.Bool.Decides.{nat_tests}
use Rattle.std.proofs.lemmas.List.{append-nil, nil_from_length}
use Rattle.std.proofs.lemmas.List.Elements.{All-tail}
use Rattle.std.proofs.lemmas.Option.{cond_some, same_Some}
use Rattle.byte_fields.specs.Reading.{made, both}
use Rattle.byte_fields.specs.Spelling.{AreBytes}
use Rattle.crash_base.proofs.Options.{then_some, map_some}
use Rattle.auction_calls.specs.declared.action.Action.{Action}
use Rattle.auction_calls.specs.declared.action.ActionCall.{ActionCall}
use Rattle.auction_calls.specs.declared.fields.CallHead.{CallHead}
use Rattle.auction_calls.specs.Calls.{is_action, is_sized, is_call}
use Rattle.auction_calls.specs.Reading.{head_at, action_at, call_at, call_of}
use Rattle.auction_calls.specs.Texts.{action_number, field_bytes, head_bytes, call_bytes, Spells, SpellsNoCall}
use Rattle.auction_calls.proofs.ExactActions.{action_takes, action_again}
use Rattle.auction_calls.proofs.ExactFields.{IsHead, spell_head, head_exact}

-- a call of its head and action, and the head of a call
abbrev call_from : CallHead × Action → ActionCall
call_from c = record { action = c.1; user = c.0.user; key = c.0.key; now = c.0.now; fresh = c.0.fresh; form = c.0.form }

abbrev head_of : ActionCall → CallHead
head_of c = record { user = c.user; key = c.key; now = c.now; fresh = c.fresh; form = c.form }

-- a number, a head and fields, one after the other
joined : (number same : ℕ) (bytes head middle fields rest : List ℕ) → bytes ≡ head ++ middle → middle ≡ fields ++ rest → same ≡ number → number ∷ bytes ≡ same ∷ (head ++ fields) ++ rest
joined number same bytes head middle fields rest first second is = ap (λ n. n ∷ bytes) (sym is) ∙ ap (λ s. same ∷ s) (first ∙ ap (λ s. head ++ s) second ∙ sym (append_assoc head fields rest))

-- the same of the head and action that were read
abbrev Spelled : List ℕ → (CallHead × Action) × List ℕ → Type 0
Spelled text z = text ≡ action_number z.0.1 ∷ (spell_head z.0.0 ++ field_bytes z.0.1) ++ z.1

read_behind : (number : ℕ) (bytes : List ℕ) (x : (CallHead × Action) × List ℕ) → AreBytes bytes → both head_at (action_at number) bytes ≡ Some x → Spelled (number ∷ bytes) x
read_behind number bytes x are e =
    let (h, he, ae) = then_some (λ (h : CallHead × List ℕ). option_map (λ (a : Action × List ℕ). ((h.0, a.0), a.1)) (action_at number h.1)) (head_at bytes) x e in
    let (a, aa, pe) = map_some (λ (a : Action × List ℕ). ((h.0, a.0), a.1)) (action_at number h.1) x ae in
    let t = head_exact.takes bytes h.0 h.1 are he in
    let b = action_takes number h.1 a.0 a.1 t.0.rest_are aa in
    subst (Spelled (number ∷ bytes)) {x = ((h.0, a.0), a.1)} pe (joined number (action_number a.0) bytes (spell_head h.0) h.1 (field_bytes a.0) a.1 t.0.parts b.parts b.number_is)

-- what is read off the front of a text spells the call
call_takes : (text : List ℕ) (call : ActionCall) (rest : List ℕ) → AreBytes text → call_at text ≡ Some (call, rest) → text ≡ call_bytes call ++ rest
unfolding call_at call_bytes head_bytes
call_takes [] call rest are e = absurd (cc)
call_takes (number ∷ bytes) call rest are e =
    let (x, xe, ce) = map_some (λ (x : (CallHead × Action) × List ℕ). (call_from x.0, x.1)) (both head_at (action_at number) bytes) (call, rest) e in
    let Q : ActionCall × List ℕ → Type 0 = λ z. number ∷ bytes ≡ call_bytes z.0 ++ z.1 in
    subst Q ce (read_behind number bytes x (All-tail (λ b. b < 2 ^ 8) number bytes are) xe)

-- the head of a call in its ranges is in its own
head_in : (call : ActionCall) → nat_lt call.now.0 (2 ^ 62) ≡ true → is_sized call ≡ true → IsHead (head_of call)
head_in call early is =
    let a = and_parts (nat_le call.user 4294967295) (nat_lt call.fresh (2 ^ 64) && ((length call.key.0 == 16) && (length call.form == 56))) is in
    let b = and_parts (nat_lt call.fresh (2 ^ 64)) ((length call.key.0 == 16) && (length call.form == 56)) a.1 in
    let c = and_parts (length call.key.0 == 16) (length call.form == 56) b.1 in
    let below : call.now.0 < 2 ^ 62 = grind (arith, nat_tests) in
    record {
      user = grind (arith, nat_tests, a.0);
      key = grind (arith, nat_tests, c.0);
      now = omega arith;
      fresh = grind (arith, nat_tests, b.0);
      form = grind (arith, nat_tests, c.1);
    }

-- what a call spells is read as it, whatever follows
call_again : (call : ActionCall) (rest : List ℕ) → is_call call ≡ true → call_at (call_bytes call ++ rest) ≡ Some (call, rest)
unfolding call_at call_bytes head_bytes
call_again call rest is =
    let a = and_parts (is_action call.action) (nat_lt call.now.0 (2 ^ 62) && is_sized call) is in
    let b = and_parts (nat_lt call.now.0 (2 ^ 62)) (is_sized call) a.1 in
    let head = head_exact.again (head_of call) (field_bytes call.action ++ rest) (head_in call b.0 b.1) in
    let action = action_again call.action rest a.0 in
    let field = made call_from (both head_at (action_at (action_number call.action))) in
    ap field (append_assoc (spell_head (head_of call)) (field_bytes call.action) rest) ∙ rw (head, action) refl

-- what a text is read as, it spells
pub read_spells : (text : List ℕ) (call : ActionCall) → AreBytes text → call_of text ≡ Some call → Spells text call
unfolding call_of
read_spells text call are e =
    let (x, xe, he) = then_some (λ (x : ActionCall × List ℕ). cond ((length x.1 == 0) && is_call x.0) (Some x.0) None) (call_at text) call e in
    let g = cond_some ((length x.1 == 0) && is_call x.0) x.0 call he in
    let both = and_parts (length x.1 == 0) (is_call x.0) g.0 in
    let none : length x.1 ≡ 0 = grind (arith, nat_tests, both.0) in
    let is : text ≡ call_bytes x.0 = call_takes text x.0 x.1 are xe ∙ ap (λ rest. call_bytes x.0 ++ rest) (nil_from_length x.1 none) ∙ append-nil (call_bytes x.0) in
    subst (Spells text) g.1 (record { in_ranges = both.1; bytes_are = is })

-- what a call spells is read as it, and nothing is left
call_alone : (call : ActionCall) → is_call call ≡ true → call_at (call_bytes call) ≡ Some (call, [])
call_alone call is = ap call_at (sym (append-nil (call_bytes call))) ∙ call_again call [] is

pub read_back : (call : ActionCall) → is_call call ≡ true → call_of (call_bytes call) ≡ Some call
unfolding call_of
read_back call is = rw (call_alone call is, is) refl

pub spelled_read : (text : List ℕ) (call : ActionCall) → Spells text call → call_of text ≡ Some call
spelled_read text call s = ap call_of s.bytes_are ∙ read_back call s.in_ranges

-- where a text spells no call
pub none_spelled : (text : List ℕ) → AreBytes text → (call_of text ≡ None) ↔ SpellsNoCall text
none_spelled text are =
    let go : (o : Option ActionCall) → call_of text ≡ o → SpellsNoCall text → o ≡ None = elim [
      | None ↦ λ e h. refl
      | Some call ↦ λ e h. absurd (h call (read_spells text call are e))
    ] in
    (λ e call s. let back = spelled_read text call s in absurd (cc), go (call_of text) refl)

-- a text spells one call at most
pub one_call : (text : List ℕ) (call other : ActionCall) → Spells text call → Spells text other → call ≡ other
one_call text call other s t = same_Some call other (sym (spelled_read text call s) ∙ spelled_read text other t)
