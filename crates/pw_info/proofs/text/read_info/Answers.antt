use Rattle.std.proofs.Common.{refl, codes}
use Rattle.pw_info.specs.declared.kind.Kind.TheVariants as kinds
use Rattle.pw_info.proofs.Dots.{IfNone_then}
use Rattle.pw_info.proofs.Spellings.{IfSome_both, by_values, no_info, not_named}
use Rattle.pw_info.proofs.text.read_info.Goals as goal

pub returns-in-Interval-clause-some : goal.returns-in-Interval-clause-some
returns-in-Interval-clause-some g c =
    IfSome_both c.read_interval.result c.read_interval.ensures.kind c.read_interval.ensures.some
    (λ info same spelled. by_values (g.N.KindNames.members c.args.names.now) c.args.word.now c.args.kind kinds.Interval info c.in-Interval.is same (spelled (g.N.KindNames.members c.args.names.now)))

pub returns-in-Interval-clause-none : goal.returns-in-Interval-clause-none
returns-in-Interval-clause-none g c =
    let word = c.args.word.now in
    IfNone_then c.read_interval.result c.read_interval.result refl c.read_interval.ensures.none
    (λ none. no_info (g.N.KindNames.members c.args.names.now) word c.args.kind kinds.Interval c.in-Interval.is
    (not_named word c.as_slice.result.now (codes "nothing") c.eq.result c.eq.ensures c.as_slice.ensures c.if-eq.false)
    (not_named word c.as_slice-2.result.now (codes "contradiction") c.eq-2.result c.eq-2.ensures c.as_slice-2.ensures c.if-eq-2.false)
    (none (g.N.KindNames.members c.args.names.now)))

pub returns-in-Members-clause-some : goal.returns-in-Members-clause-some
returns-in-Members-clause-some g c =
    IfSome_both c.read_members.result c.read_members.ensures.kind c.read_members.ensures.some
    (λ info same spelled. by_values (g.N.KindNames.members c.args.names.now) c.args.word.now c.args.kind (kinds.Members c.in-Members.set) info c.in-Members.is same spelled)

pub returns-in-Members-clause-none : goal.returns-in-Members-clause-none
returns-in-Members-clause-none g c =
    let word = c.args.word.now in
    IfNone_then c.read_members.result c.read_members.result refl c.read_members.ensures.none
    (no_info (g.N.KindNames.members c.args.names.now) word c.args.kind (kinds.Members c.in-Members.set) c.in-Members.is
    (not_named word c.as_slice.result.now (codes "nothing") c.eq.result c.eq.ensures c.as_slice.ensures c.if-eq.false)
    (not_named word c.as_slice-2.result.now (codes "contradiction") c.eq-2.result c.eq-2.ensures c.as_slice-2.ensures c.if-eq-2.false))

pub returns-in-Exact-clause-some : goal.returns-in-Exact-clause-some
returns-in-Exact-clause-some g c =
    IfSome_both c.read_exact.result c.read_exact.ensures.kind c.read_exact.ensures.some
    (λ info same spelled. by_values (g.N.KindNames.members c.args.names.now) c.args.word.now c.args.kind kinds.Exact info c.in-Exact.is same (spelled (g.N.KindNames.members c.args.names.now)))

pub returns-in-Exact-clause-none : goal.returns-in-Exact-clause-none
returns-in-Exact-clause-none g c =
    let word = c.args.word.now in
    IfNone_then c.read_exact.result c.read_exact.result refl c.read_exact.ensures.none
    (λ none. no_info (g.N.KindNames.members c.args.names.now) word c.args.kind kinds.Exact c.in-Exact.is
    (not_named word c.as_slice.result.now (codes "nothing") c.eq.result c.eq.ensures c.as_slice.ensures c.if-eq.false)
    (not_named word c.as_slice-2.result.now (codes "contradiction") c.eq-2.result c.eq-2.ensures c.as_slice-2.ensures c.if-eq-2.false)
    (none (g.N.KindNames.members c.args.names.now)))
