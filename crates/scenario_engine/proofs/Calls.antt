-- What the keeper tells and counts over calls.
use Rattle.std.proofs.Common.{inr, ◌⊎◌, ◌≢◌, ◌≡◌, ℕ, ◌≤◌, Bool, true, false, List, [], ◌∷◌, ◌++◌, Option, inl, refl, sym, ap, ◌∙◌, subst, append-nil, append_assoc, arith}
use Rattle.std.specs.Prelude.{◌||◌}
use Rattle.std.proofs.lemmas.Bool.{cases_lt}
use Rattle.std.proofs.lemmas.List.Folds.{list_any-append}
use Rattle.outside.specs.Faults.{Rose}
use Rattle.outside.specs.declared.keeper.KeeperFault.TheVariants as faults
use Rattle.outside.specs.Keeper.{KeeperTold, TellsRefusal}
use Rattle.scenario_engine.specs.KeeperCalls.{KeeperCall, Gave, Kept, Failed, KeeperSeen, TellsCalls, is_failed, has_failed, AreCounted, AreMade, AreSomeMade}

-- a count that rose, and did not fall before or after

pub rose_later : (a b c : ℕ) → Rose a b → a ≤ b → b ≤ c → Rose a c
rose_later a b c (inl less) ab bc = inl (omega arith)
rose_later a b c (inr last) ab bc = elim (cases_lt a c) [
  | inl less ↦ inl less
  | inr more ↦ inr (omega (arith, last))
]

pub rose_before : (a b c : ℕ) → Rose b c → a ≤ b → Rose a c
rose_before a b c (inl less) ab = inl (omega arith)
rose_before a b c (inr last) ab = inr last

rose_in_one : (one two : Bool) (a b c : ℕ) → (one ≡ true → Rose a b) → (two ≡ true → Rose b c) → a ≤ b → b ≤ c → (one || two) ≡ true → Rose a c
rose_in_one true two a b c h k ab bc is = rose_later a b c (h refl) ab bc
rose_in_one false two a b c h k ab bc is = rose_before a b c (k is) ab

-- counts over calls

pub counted_unfailed : (calls : List KeeperCall) (old new : ℕ) → has_failed calls ≡ false → old ≤ new → AreCounted calls old new
counted_unfailed calls old new none count = record { count = count; failed = λ is. absurd (cc) }

pub counted_failed : (calls : List KeeperCall) (old new : ℕ) → old ≤ new → Rose old new → AreCounted calls old new
counted_failed calls old new count rose = record { count = count; failed = λ is. rose }

counted_both : (calls more : List KeeperCall) (a b c : ℕ) → AreCounted calls a b → AreCounted more b c → AreCounted (calls ++ more) a c
counted_both calls more a b c h k = record {
  count = omega (arith, h.count, k.count);
  failed = λ is. rose_in_one (has_failed calls) (has_failed more) a b c h.failed k.failed h.count k.count (sym (list_any-append is_failed calls more) ∙ is);
}

-- no call was made
pub none_made : (k : KeeperSeen) → AreMade [] k k
none_made k = record { told = refl; counted = counted_unfailed [] k.faults k.faults refl (omega arith) }

pub none_of : (calls : List KeeperCall) (k : KeeperSeen) → AreSomeMade calls k k
none_of calls k = record {
  made = [];
  more = calls;
  begins = refl;
  between = k.told;
  told = refl;
  last = inl refl;
  counted = counted_unfailed [] k.faults k.faults refl (omega arith);
}

-- calls that were all made
pub all_made : (calls : List KeeperCall) (old new : KeeperSeen) → AreMade calls old new → AreSomeMade calls old new
all_made calls old new h = record {
  made = calls;
  more = [];
  begins = sym (append-nil calls);
  between = new.told;
  told = h.told;
  last = inl refl;
  counted = h.counted;
}

-- calls, and then further ones
pub then_calls : (calls more : List KeeperCall) (old between new : Option KeeperTold) → TellsCalls calls old between → TellsCalls more between new → TellsCalls (calls ++ more) old new
then_calls [] more old between new told next = subst (λ o. TellsCalls more o new) told next
then_calls (call ∷ calls) more old between new told next = (told.0, told.1, then_calls calls more told.0 between new told.2 next)

pub then_made : (calls more : List KeeperCall) (old between new : KeeperSeen) → AreMade calls old between → AreMade more between new → AreMade (calls ++ more) old new
then_made calls more old between new h k = record {
  told = then_calls calls more old.told between.told new.told h.told k.told;
  counted = counted_both calls more old.faults between.faults new.faults h.counted k.counted;
}

-- calls, and then some of further ones
pub then_some : (calls more : List KeeperCall) (old between new : KeeperSeen) → AreMade calls old between → AreSomeMade more between new → AreSomeMade (calls ++ more) old new
then_some calls more old between new h some = record {
  made = calls ++ some.made;
  more = some.more;
  begins = ap (λ cs. calls ++ cs) some.begins ∙ sym (append_assoc calls some.made some.more);
  between = some.between;
  told = then_calls calls some.made old.told between.told some.between h.told some.told;
  last = some.last;
  counted = counted_both calls some.made old.faults between.faults new.faults h.counted some.counted;
}

left_some : (calls more : List KeeperCall) → calls ≢ [] → calls ++ more ≢ []
left_some [] more some = absurd (some refl)
left_some (call ∷ calls) more some = λ none. cc

-- the next call of the first calls is one of all
next_first : (calls more : List KeeperCall) (between new : Option KeeperTold) → ((new ≡ between) ⊎ ((calls ≢ []) × TellsRefusal faults.OutOfMemory between new)) → (new ≡ between) ⊎ ((calls ++ more ≢ []) × TellsRefusal faults.OutOfMemory between new)
next_first calls more between new (inl is) = inl is
next_first calls more between new (inr (some, tells)) = inr (left_some calls more some, tells)

-- some of the first calls are some of all
pub some_first : (calls more : List KeeperCall) (old new : KeeperSeen) → AreSomeMade calls old new → AreSomeMade (calls ++ more) old new
some_first calls more old new some = record {
  made = some.made;
  more = some.more ++ more;
  begins = ap (λ cs. cs ++ more) some.begins ∙ append_assoc some.made some.more more;
  between = some.between;
  told = some.told;
  last = next_first some.more more some.between new.told some.last;
  counted = some.counted;
}

-- a keeper has failed at calls among which is a failed one
pub failed_among : (calls before after : List KeeperCall) → calls ≡ before ++ Failed ∷ after → has_failed calls ≡ true
failed_among calls before after is = ap has_failed is ∙ go before
  where
    go : (before : List KeeperCall) → has_failed (before ++ Failed ∷ after) ≡ true
    go [] = refl
    go (Gave rows ∷ more) = go more
    go (Kept writes ∷ more) = go more
    go (Failed ∷ more) = refl
