use Rattle.std.proofs.Common.{◌≡◌, [], refl, codes, arith, ap, pos, sym, true, ◌∙◌}
use Rattle.std.proofs.lemmas.List.{append-nil}
use Rattle.pw_kinds.specs.Members.{allows}
use Rattle.pw_info.specs.inside.Scanning.{mark_after}
use Rattle.pw_info.proofs.MemberTexts.{below_without, closed_at, broken_off_more, mark_with, written_more}
use Rattle.pw_info.proofs.PassingFacts.{first_fails, second_writes}
use Rattle.pw_info.proofs.member_text.write_set.Goals as goal
use Rattle.pw_info.proofs.member_text.write_set.Goals.{then-contains+in_ok-write_name, else-contains}

pub loop-place-init : goal.loop-place-init
loop-place-init g c = record { written = record { passed = g.met.O.Output.none c.args.output.now; works = λ e. e }; mark = refl }

pub returns-in_err-write_name : goal.returns-in_err-write_name
returns-in_err-write_name g c =
    first_fails g.O.Output.passes g.O.Output.has_failed _ _ c.from_residual.result _ _ [] c.from_residual.ensures.0
    (broken_off_more g.O.Output.passes g.O.Output.has_failed g.met.O.Output.joins c.args.output.now c.loop-place.output c.write_name.new.output
    (g.N.KindNames.members c.args.names.now c.args.set) c.args.part c.loop-place.place c.loop-place.mark.now c.member.result.now
    (sym c.contains.ensures ∙ c.if-contains.true) c.loop-place.invariant.mark c.member.ensures c.loop-place.invariant.written
    (omega arith) c.in_err-write_name.ensures) (sym (append-nil _))

pub loop-place-preserved : goal.loop-place-preserved
loop-place-preserved g c =
    elim c.if-contains.branch [
      | then-contains+in_ok-write_name w ↦
          let is : allows c.args.part (pos c.loop-place.place) ≡ true = sym c.contains.ensures ∙ w.if-contains.true in
          record {
            written = rw w.output-is (written_more g.O.Output.passes g.O.Output.has_failed g.met.O.Output.joins c.args.output.now c.loop-place.output w.write_name.new.output
                (g.N.KindNames.members c.args.names.now c.args.set) c.args.part c.loop-place.place c.loop-place.mark.now w.member.result.now
                is c.loop-place.invariant.mark w.member.ensures c.loop-place.invariant.written w.in_ok-write_name.ensures);
            mark = ap (λ m. m.now) w.mark-is ∙ sym (mark_with c.args.part c.loop-place.place is);
          }
      | else-contains w ↦
          let same = below_without c.args.part c.loop-place.place (sym c.contains.ensures ∙ w.if-contains.false) in
          record {
            written = rw (w.output-is, same) c.loop-place.invariant.written;
            mark = ap (λ m. m.now) w.mark-is ∙ c.loop-place.invariant.mark ∙ ap mark_after (sym same);
          }
    ]

pub returns : goal.returns
returns g c =
    second_writes g.O.Output.passes g.O.Output.has_failed g.met.O.Output.joins _ _ _ c.put_all.result _ _ (codes "}")
    c.loop-place.invariant.written c.put_all.ensures
    (closed_at (g.N.KindNames.members c.args.names.now c.args.set) c.args.part c.loop-place.place (omega (arith, c.size-place-end.ensures)) c.requires.some)
