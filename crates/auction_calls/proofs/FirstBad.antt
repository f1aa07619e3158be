-- The first field of a call that is out of its range.
use Rattle.std.specs.Prelude.{MatchOption, All}
use Rattle.std.proofs.Common.{◌≡◌, ◌↔◌, ◌^◌, ◌&&◌, nat_lt, nat_le, Bool, true, false, cond, List, [], ◌∷◌, ◌++◌, Option, Some, None, refl, ap, sym, subst, ◌∙◌, inl, inr}
use Rattle.std.specs.Cmp.Derive.{both_true}
use Rattle.std.proofs.Math.Bool.{and-true}
use Rattle.std.proofs.lemmas.Bool.{and_parts, both_ways, cases_Bool}
use Rattle.std.proofs.lemmas.List.Elements.{All-nil, All-head, All-tail, All-cons}
use Rattle.std.proofs.lemmas.Option.{same_Some}
use Rattle.auction_calls.specs.declared.action.Action.{Action}
use Rattle.auction_calls.specs.declared.action.Action.TheVariants as action
use Rattle.auction_calls.specs.declared.action.ActionCall.{ActionCall}
use Rattle.auction_calls.specs.declared.call_field.CallField.{CallField}
use Rattle.auction_calls.specs.Calls.{is_between, is_id, is_text, is_user_name, is_action, is_sized, is_call}
use Rattle.auction_calls.specs.BadFields.{FieldTest, field_test, action_fields, call_fields, first_out, bad_field, IsFirstOut}

-- whether each of some fields is in its range
abbrev all_in : List FieldTest → Bool
all_in [] = true
all_in (t ∷ ts) = t.is_in && all_in ts

none_out : (ts : List FieldTest) → first_out ts ≡ None → all_in ts ≡ true
none_out [] is = refl
none_out (t ∷ ts) is = by t.is_in (none_out ts) is
  where
    by : (b : Bool) → (first_out ts ≡ None → all_in ts ≡ true) → cond b (first_out ts) (Some t.name) ≡ None → (b && all_in ts) ≡ true
    by true later out = later out
    by false later out = absurd (cc)

some_out : (ts : List FieldTest) (f : CallField) → first_out ts ≡ Some f → all_in ts ≡ false
some_out [] f is = absurd (cc)
some_out (t ∷ ts) f is = by t.is_in (some_out ts f) is
  where
    by : (b : Bool) → (first_out ts ≡ Some f → all_in ts ≡ false) → cond b (first_out ts) (Some t.name) ≡ Some f → (b && all_in ts) ≡ false
    by true later out = later out
    by false later out = refl

-- an action is in its ranges where each of its fields is
action_in : (a : Action) → all_in (action_fields a) ≡ is_action a
action_in action.Home = refl
action_in (action.Register name password) = ap (λ b. is_user_name name && b) (and-true (is_text 1 72 password))
action_in (action.SignIn name password) = ap (λ b. is_user_name name && b) (and-true (is_text 1 72 password))
action_in action.SignOut = refl
action_in action.Categories = refl
action_in (action.AddCategory name) = and-true (is_text 1 40 name)
action_in (action.Browse category page) = ap (λ b. is_id category && b) (and-true (nat_le page 9999))
action_in (action.Item item) = and-true (is_id item)
action_in (action.User user) = and-true (is_id user)
action_in action.About = refl
action_in (action.Sell title category start buy_now hours) =
    ap (λ b. is_text 1 80 title && (is_id category && (is_between 1 4000000000 start && (nat_le buy_now 4000000000 && b))))
    (and-true (is_between 1 720 hours))
action_in (action.Bid item amount) = ap (λ b. is_id item && b) (and-true (is_between 1 4000000000 amount))
action_in (action.Buy item) = and-true (is_id item)
action_in (action.Close item) = and-true (is_id item)
action_in (action.Feedback item good text) = ap (λ b. is_id item && b) (and-true (is_text 0 200 text))
action_in (action.Form kind) = refl

none_bad : (c : ActionCall) → is_sized c ≡ true → bad_field c ≡ None → is_call c ≡ true
none_bad c sized is =
    let all = and_parts (nat_lt c.now.0 (2 ^ 62)) (all_in (action_fields c.action)) (none_out (call_fields c) is) in
    both_true (sym (action_in c.action) ∙ all.1) (both_true all.0 sized)

call_none : (c : ActionCall) → is_call c ≡ true → all_in (call_fields c) ≡ true
call_none c is =
    let parts = and_parts (is_action c.action) (nat_lt c.now.0 (2 ^ 62) && is_sized c) is in
    let head = and_parts (nat_lt c.now.0 (2 ^ 62)) (is_sized c) parts.1 in
    both_true head.0 (action_in c.action ∙ parts.0)

some_bad : (c : ActionCall) (f : CallField) → bad_field c ≡ Some f → is_call c ≡ false
some_bad c f is =
    elim (cases_Bool (is_call c)) [
      | inl held ↦ absurd (both_ways (all_in (call_fields c)) (some_out (call_fields c) f is) (call_none c held))
      | inr out ↦ out
    ]

-- a call is in its ranges where no field is bad, and out of them where one is
pub bad_matches : (c : ActionCall) (found : Option CallField) → is_sized c ≡ true → found ≡ bad_field c
    → MatchOption found (is_call c ≡ true) (λ f. is_call c ≡ false)
bad_matches c None sized is = none_bad c sized (sym is)
bad_matches c (Some f) sized is = some_bad c f (sym is)

call_has_none : (c : ActionCall) (found : Option CallField) → bad_field c ≡ found → is_call c ≡ true → bad_field c ≡ None
call_has_none c None is in_range = is
call_has_none c (Some f) is in_range = absurd (both_ways (is_call c) (some_bad c f is) in_range)

pub none_is_call : (c : ActionCall) → is_sized c ≡ true → (bad_field c ≡ None) ↔ (is_call c ≡ true)
none_is_call c sized = (none_bad c sized, call_has_none c (bad_field c) refl)

first_is_out : (ts : List FieldTest) (f : CallField) → first_out ts ≡ Some f → IsFirstOut ts f
first_is_out [] f is = absurd (cc)
first_is_out (t ∷ ts) f is = by t.is_in refl (first_is_out ts f) is
  where
    by : (b : Bool) → t.is_in ≡ b → (first_out ts ≡ Some f → IsFirstOut ts f) → cond b (first_out ts) (Some t.name) ≡ Some f
        → IsFirstOut (t ∷ ts) f
    by true test later out =
        let rest = later out in
        record {
          before = t ∷ rest.before;
          after = rest.after;
          are = ap (λ us. t ∷ us) rest.are;
          in_range = All-cons (λ (u : FieldTest). u.is_in ≡ true) t rest.before test rest.in_range;
        }
    by false test later out =
        let same : t.name ≡ f = same_Some t.name f out in
        let one : t ≡ field_test f false = ap (λ n. field_test n t.is_in) same ∙ ap (λ b. field_test f b) test in
        record {
          before = [];
          after = ts;
          are = ap (λ u. u ∷ ts) one;
          in_range = All-nil (λ (u : FieldTest). u.is_in ≡ true);
        }

passes : (before after : List FieldTest) (f : CallField) → All (λ (t : FieldTest). t.is_in ≡ true) before
    → first_out (before ++ field_test f false ∷ after) ≡ Some f
passes [] after f all = refl
passes (t ∷ before) after f all =
    let Q : Bool → Type 0 = λ b. cond b (first_out (before ++ field_test f false ∷ after)) (Some t.name) ≡ Some f in
    subst Q (sym (All-head (λ (u : FieldTest). u.is_in ≡ true) t before all))
    (passes before after f (All-tail (λ (u : FieldTest). u.is_in ≡ true) t before all))

-- the bad field is the first that is out of its range
pub bad_is_first : (c : ActionCall) (f : CallField) → (bad_field c ≡ Some f) ↔ IsFirstOut (call_fields c) f
bad_is_first c f = (first_is_out (call_fields c) f, λ first. ap first_out first.are ∙ passes first.before first.after f first.in_range)
