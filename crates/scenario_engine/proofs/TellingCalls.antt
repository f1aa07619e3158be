-- What a keeper tells over calls, in two parts, and after it has stopped telling.
use Rattle.std.proofs.Common.{◌≡◌, inl, inr, List, [], ◌∷◌, ◌++◌, Option, Some, None, refl, ap, ◌∙◌, subst}
use Rattle.crash_base.specs.declared.rows.RowWrite.{RowWrite}
use Rattle.outside.specs.Keeper.{KeeperTold}
use Rattle.scenario_engine.specs.KeeperCalls.{KeeperCall, Gave, Kept, Failed, TellsCall, TellsCalls}

-- calls in two parts

-- the keeper tells between the two parts
record Between (calls more : List KeeperCall) (old new : Option KeeperTold) : Type 0 where
  between : Option KeeperTold
  before : TellsCalls calls old between
  after : TellsCalls more between new

tells-split : (calls more : List KeeperCall) (old new : Option KeeperTold) → TellsCalls (calls ++ more) old new → Between calls more old new
tells-split [] more old new told = record { between = old; before = refl; after = told }
tells-split (call ∷ calls) more old new told =
    let rest : Between calls more told.0 new = tells-split calls more told.0 new told.2 in
    record { between = rest.between; before = (told.0, told.1, rest.before); after = rest.after }

-- a keeper that has stopped telling never tells again

none_after_call : (call : KeeperCall) (new : Option KeeperTold) → TellsCall call None new → new ≡ None
none_after_call (Gave rows) new told = told.1
none_after_call (Kept writes) new told = told
none_after_call Failed new (inl is) = is
none_after_call Failed new (inr is) = is

pub none_after : (calls : List KeeperCall) (new : Option KeeperTold) → TellsCalls calls None new → new ≡ None
none_after [] new told = told
none_after (call ∷ calls) new told =
    let P : Option KeeperTold → Type 0 = λ o. TellsCalls calls o new in
    none_after calls new (subst P (none_after_call call told.0 told.1) told.2)

-- a keeper that tells after calls told between their two parts
pub record Halves (calls more : List KeeperCall) (t u : KeeperTold) : Type 0 where
  pub half : KeeperTold
  pub before : TellsCalls calls (Some t) (Some half)
  pub after : TellsCalls more (Some half) (Some u)

pub halves : (calls more : List KeeperCall) (t u : KeeperTold) → TellsCalls (calls ++ more) (Some t) (Some u) → Halves calls more t u
halves calls more t u told = go whole.between whole.before whole.after
  where
    whole : Between calls more (Some t) (Some u)
    whole = tells-split calls more (Some t) (Some u) told

    go : (o : Option KeeperTold) → TellsCalls calls (Some t) o → TellsCalls more o (Some u) → Halves calls more t u
    go (Some half) before after = record { half = half; before = before; after = after }
    go None before after = absurd (cc (none_after more (Some u) after))

abbrev pub rows_told : Option KeeperTold → List RowWrite
rows_told None = []
rows_told (Some t) = t.rows

-- a call that failed leaves the rows
pub rows_failed : (t u : KeeperTold) → TellsCalls (Failed ∷ []) (Some t) (Some u) → u.rows ≡ t.rows
rows_failed t u (between, inl is, same) = ap rows_told same ∙ ap rows_told is
rows_failed t u (between, inr is, same) = absurd (cc)
