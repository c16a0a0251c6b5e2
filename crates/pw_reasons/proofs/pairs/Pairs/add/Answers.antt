use Rattle.std.proofs.Common.{List, slice_set, subst}
use Rattle.pw_premises.specs.Premises.{Premises}
use Rattle.pw_reasons.specs.inside.Families.{HasOneMore}
use Rattle.pw_reasons.specs.inside.PairRows.{pair, pairs_in}
use Rattle.pw_reasons.proofs.PairLemmas.{pair_added}
use Rattle.pw_reasons.proofs.pairs.Pairs.add.Goals as goal

pub invariant_of-self-2 : goal.invariant_of-self-2
invariant_of-self-2 g c = (pair_added c.self.inside.rows.items c.grow.new.rows.items c.args.lesser c.args.greater c.index_mut.result.now c.insert.new.self
    c.index_mut-2.result.now c.insert-2.new.self c.grow.ensures.same c.requires.rise c.requires.in_range c.in_ok-grow.ensures.room c.grow.ensures.few
    c.index_mut.ensures.value c.insert.ensures.inserted c.index_mut-2.ensures.value c.insert-2.ensures.inserted c.self.invariant).0

pub returns-clause-more : goal.returns-clause-more
returns-clause-more g c =
    let new = slice_set (slice_set c.grow.new.rows.items c.args.lesser c.insert.new.self) c.args.greater c.insert-2.new.self in
    subst (λ (l : List Premises). HasOneMore l (pairs_in new) (pair c.args.lesser c.args.greater)) c.self.view_is
    (pair_added c.self.inside.rows.items c.grow.new.rows.items c.args.lesser c.args.greater c.index_mut.result.now c.insert.new.self
    c.index_mut-2.result.now c.insert-2.new.self c.grow.ensures.same c.requires.rise c.requires.in_range c.in_ok-grow.ensures.room c.grow.ensures.few
    c.index_mut.ensures.value c.insert.ensures.inserted c.index_mut-2.ensures.value c.insert-2.ensures.inserted c.self.invariant).1
