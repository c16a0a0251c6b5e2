use Rattle.std.proofs.Common.{◌≡◌, bit_and, sym, ◌∙◌}
use Rattle.std.proofs.lemmas.Bool.{eqb-true, eq-eqb}
use Rattle.pw_kinds.specs.Members.{mask_in}
use Rattle.pw_kinds.proofs.MemberSets.{within_mask, mask_within}
use Rattle.pw_kinds.proofs.members.Members.within.Goals as goal

pub returns : goal.returns
returns c =
    let both : bit_and c.bits.result c.bits-2.result ≡ bit_and (mask_in c.args.self) (mask_in c.args.other) = λ i. bit_and (c.bits.ensures i) (c.bits-2.ensures i) in (
      λ e. mask_within c.args.self c.args.other (sym both ∙ eqb-true (bit_and c.bits.result c.bits-2.result) c.bits-3.result e ∙ c.bits-3.ensures),
      λ w. eq-eqb (bit_and c.bits.result c.bits-2.result) c.bits-3.result (both ∙ within_mask c.args.self c.args.other w ∙ sym c.bits-3.ensures),
    )
