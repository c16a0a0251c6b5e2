use Rattle.std.proofs.Common.{◌≡◌, ◌∷◌, [], ◌++◌, List, ℕ, codes, Some, ap, ◌∙◌}
use Rattle.std.proofs.lemmas.Bool.Decides.{Decides-eqb}
use Rattle.std.proofs.lemmas.Slice.Eq.{strip_prefix_is, strip_suffix_is}
use Rattle.pw_info.proofs.Spellings.{IfNone_holds, no_set, set_kind_is, set_spelled}
use Rattle.pw_info.proofs.member_text.read_members.Goals as goal

-- the word, by what is stripped of it
in_braces : (word rest list : List ℕ) → word ≡ codes "{" ++ rest → rest ≡ list ++ codes "}" → word ≡ 123 ∷ (list ++ (125 ∷ []))
in_braces word rest list opens closes = opens ∙ ap (λ (l : List ℕ). 123 ∷ l) closes

pub returns-in_err-part-clause-none : goal.returns-in_err-part-clause-none
returns-in_err-part-clause-none g c =
    IfNone_holds c.from_residual-in_err-part.result
    (no_set (g.N.KindNames.members c.args.names.now) c.args.word.now c.in_ok-list.list.now c.args.set c.empty.result c.empty.ensures.size c.empty.ensures.values
    (in_braces _ _ _
    (strip_prefix_is Decides-eqb c.args.word.now (codes "{") (Some c.in_ok-strip_prefix.field-0) c.in_ok-strip_prefix.ensures.cases)
    (strip_suffix_is Decides-eqb c.in_ok-strip_prefix.field-0.now (codes "}") (Some c.in_ok-list.list) c.in_ok-list.ensures.cases))
    c.in_err-part.ensures.none)

pub returns-clause-kind : goal.returns-clause-kind
returns-clause-kind g c = c.of_members.ensures.kind ∙ set_kind_is c.args.set c.in_ok-part.part (c.in_ok-part.ensures.some.size ∙ c.empty.ensures.size)

pub returns-clause-some : goal.returns-clause-some
returns-clause-some g c =
    set_spelled (g.N.KindNames.members c.args.names.now) c.args.word.now c.in_ok-list.list.now c.args.set c.empty.result c.in_ok-part.part c.of_members.result
    c.empty.ensures.size c.empty.ensures.values
    (in_braces _ _ _
    (strip_prefix_is Decides-eqb c.args.word.now (codes "{") (Some c.in_ok-strip_prefix.field-0) c.in_ok-strip_prefix.ensures.cases)
    (strip_suffix_is Decides-eqb c.in_ok-strip_prefix.field-0.now (codes "}") (Some c.in_ok-list.list) c.in_ok-list.ensures.cases))
    c.in_ok-part.ensures.some c.of_members.ensures.values
