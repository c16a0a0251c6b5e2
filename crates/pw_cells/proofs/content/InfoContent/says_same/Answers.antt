use Rattle.std.proofs.Common.{sym}
use Rattle.pw_info.proofs.Informations.{Implies-antisym}
use Rattle.pw_kinds.proofs.Order.{not_both}
use Rattle.pw_facts.proofs.Shown.{implies_same}
use Rattle.pw_cells.proofs.content.InfoContent.says_same.Goals as goal

pub returns-then-implies : goal.returns-then-implies
returns-then-implies c =
    let a = c.args.self.now in
    let b = c.args.other.now in (
      λ implied. Implies-antisym a b c.requires (c.implies.ensures.0 c.if-implies.true) (c.implies-then-implies.ensures.0 implied),
      λ same. c.implies-then-implies.ensures.1 (implies_same b a (sym same)),
    )

pub returns-else-implies : goal.returns-else-implies
returns-else-implies c = (
  λ never. absurd (not_both _ never c.if-implies.false),
  λ same. absurd (not_both _ (c.implies.ensures.1 (implies_same _ _ same)) c.if-implies.false),
)
