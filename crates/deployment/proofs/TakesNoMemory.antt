-- No refusal of parts is out of memory.
use Rattle.std.proofs.Common.{◌≢◌, ◌&&◌, Bool, true, false, not, eqb, ltb, List, [], ◌∷◌, ◌++◌, length, Option, Some, None, option_map}
use Rattle.std.specs.List.{position}
use Rattle.std.specs.Option.{option_or}
use Rattle.crash_base.specs.declared.row_id.TheConstants.{SERVICE_TABLE}
use Rattle.crash_base.specs.declared.scope.TheConstants.{MAX_GROUPS}
use Rattle.crash_base.specs.Refusals.{first_of, only_if}
use Rattle.deployment.specs.declared.parts.Parts.{Parts}
use Rattle.deployment.specs.declared.parts.TheConstants.{MAX_METHODS}
use Rattle.deployment.specs.declared.refusals.DeployRefusal.{DeployRefusal}
use Rattle.deployment.specs.declared.refusals.DeployRefusal.TheVariants.{TooMany, TooManyMethods, DuplicateName, DuplicateMethod, UnknownReference, UnknownOwner, SystemTable, TableTwice, OutOfMemory}
use Rattle.deployment.specs.Parts.{named}
use Rattle.deployment.specs.Refusals.{first_answer, repeats_name, repeated_method, repeats_method, has_table, repeats_table, each_refusal, deploy_refusal}

-- an answer other than out of memory
abbrev IsOther : Option DeployRefusal → Type 0
IsOther o = o ≢ Some OutOfMemory

-- each of these is such an answer
abbrev AreOther : List (Option DeployRefusal) → Type 0
AreOther [] = Unit {0}
AreOther (o ∷ os) = IsOther o × AreOther os

or_other : (a b : Option DeployRefusal) → IsOther a → IsOther b → IsOther (option_or a b)
or_other None b h k = k
or_other (Some r) b h k = h

first_other : (os : List (Option DeployRefusal)) → AreOther os → IsOther (first_of os)
first_other [] h = λ e. cc
first_other (o ∷ os) h = or_other o (first_of os) h.0 (first_other os h.1)

map_other : {X : Type 0} (f : X → DeployRefusal) (o : Option X) → ((x : X) → f x ≢ OutOfMemory) → IsOther (option_map f o)
map_other f None h = λ e. cc
map_other f (Some x) h = λ e. h x (cc)

only_other : (b : Bool) (r : DeployRefusal) → r ≢ OutOfMemory → IsOther (only_if b r)
only_other true r h = λ e. h (cc)
only_other false r h = λ e. cc

answer_other : {X : Type 0} (ask : List X → X → Option DeployRefusal) (before xs : List X) → ((ys : List X) (x : X) → IsOther (ask ys x)) → IsOther (first_answer ask before xs)
answer_other ask before [] h = λ e. cc
answer_other ask before (x ∷ xs) h = or_other (ask before x) (first_answer ask (before ++ x ∷ []) xs) (h before x) (answer_other ask (before ++ x ∷ []) xs h)

pub takes_no_memory : (parts : Parts) → deploy_refusal parts ≢ Some OutOfMemory
unfolding deploy_refusal
takes_no_memory parts =
    let cs = parts.components in
    let rs = parts.references in
    let ts = parts.tables in
    let n = length cs in
    let too_many : IsOther _ = only_other (ltb MAX_GROUPS n) (TooMany n) (λ e. cc) in
    let methods : IsOther _ = map_other TooManyMethods (position (λ c. ltb MAX_METHODS (length c.methods)) cs) (λ i e. cc) in
    let name : IsOther _ = answer_other repeats_name [] cs (λ ys c. map_other (λ i. DuplicateName i (length ys)) (named ys c.name) (λ i e. cc)) in
    let method : IsOther _ = answer_other repeats_method [] cs (λ ys c. map_other (DuplicateMethod (length ys)) (repeated_method c.methods) (λ i e. cc)) in
    let reference : IsOther _ = map_other UnknownReference (position (λ r. not (ltb r.from.0 n && ltb r.to.0 n)) rs) (λ i e. cc) in
    let owner : IsOther _ = map_other UnknownOwner (position (λ t. not (ltb t.owner.0 n)) ts) (λ i e. cc) in
    let system : IsOther _ = map_other SystemTable (position (λ t. eqb t.table SERVICE_TABLE) ts) (λ i e. cc) in
    let twice : IsOther _ = answer_other repeats_table [] ts (λ ys t. only_other (has_table ys t.table) (TableTwice t.table) (λ e. cc)) in
    first_other (each_refusal parts) (too_many, (methods, (name, (method, (reference, (owner, (system, (twice, tt))))))))
