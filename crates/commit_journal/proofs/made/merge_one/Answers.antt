use Rattle.std.proofs.Common.{◌≡◌, [], ◌∷◌, ◌++◌, take, drop, ap, sym, subst, ◌∙◌, arith, length-take-le}
use Rattle.commit_journal.specs.Made.{AllBefore, with_made}
use Rattle.commit_journal.proofs.Merging.{before_later, merged_whole, merged_before}
use Rattle.commit_journal.proofs.made.merge_one.Goals as goal

pub slice_bounds-append-end : goal.slice_bounds-append-end
slice_bounds-append-end c = sym (length-take-le c.in-Some.at c.args.made.now c.in-Some.ensures.absent.0)

pub append-requires : goal.append-requires
append-requires c = omega (arith, length-take-le c.in-Some.at c.args.made.now c.in-Some.ensures.absent.0, c.in-Some.ensures.absent.0, c.requires.room)

pub returns-in-Some-clause-whole : goal.returns-in-Some-clause-whole
returns-in-Some-clause-whole c =
    let ms = c.args.made.now in
    let out = c.args.merged.now.items in
    let one = c.args.one in
    let at = c.in-Some.at in
    let merged : c.push_reserved.new.self.items ≡ (out ++ take at ms) ++ one ∷ [] = c.push_reserved.ensures.items ∙ ap (λ xs. xs ++ one ∷ []) c.append.ensures.items in
    ap (λ xs. xs ++ c.rest.result.now) merged
    ∙ ap (λ xs. ((out ++ take at ms) ++ one ∷ []) ++ xs) c.rest.ensures
    ∙ merged_whole out (take at ms) one (drop at ms) (with_made one.request one.place ms) (c.in-Some.ensures.absent.1 one.place)

pub returns-in-Some-clause-before : goal.returns-in-Some-clause-before
returns-in-Some-clause-before c = λ r later before.
    let ms = c.args.made.now in
    let out = c.args.merged.now.items in
    let one = c.args.one in
    let at = c.in-Some.at in
    let merged : c.push_reserved.new.self.items ≡ (out ++ take at ms) ++ one ∷ [] = c.push_reserved.ensures.items ∙ ap (λ xs. xs ++ one ∷ []) c.append.ensures.items in
    subst (AllBefore r) (sym merged) (merged_before r out (take at ms) one later before c.in-Some.ensures.before)

pub returns-in-None-clause-whole : goal.returns-in-None-clause-whole
returns-in-None-clause-whole c = ap (λ xs. c.args.merged.now.items ++ xs) (c.in-None.ensures.there c.args.one.place)

pub returns-in-None-clause-before : goal.returns-in-None-clause-before
returns-in-None-clause-before c = λ r later before. before_later c.args.one.request r c.args.merged.now.items later before
