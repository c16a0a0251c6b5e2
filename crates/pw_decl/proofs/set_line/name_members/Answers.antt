use Rattle.std.proofs.Common.{refl, sym, ◌∙◌, append-nil}
use Rattle.std.specs.List.{list_all}
use Rattle.pw_info.specs.Name.{is_name}
use Rattle.pw_decl.proofs.MemberLemmas.{is_new}
use Rattle.pw_decl.proofs.ParameterLemmas.{and_right, names_more}
use Rattle.pw_decl.proofs.set_line.name_members.Goals as goal

pub loop-word-init : goal.loop-word-init
loop-word-init g c = record { all = rw c.new-table.ensures refl; named = c.requires.names }

pub add-requires : goal.add-requires
add-requires g c =
    let all = rw c.in-Some.ensures at c.loop-word.invariant.all in
    rw c.in-Some-read_name.ensures.1 (is_new c.loop-word.table c.in-Some.word.now c.next.new.self 0 (rw all at c.requires.distinct))

pub loop-word-preserved : goal.loop-word-preserved
loop-word-preserved g c =
    let rest = c.next.new.self in
    let all = rw c.in-Some.ensures at c.loop-word.invariant.all in
    let named = rw c.in-Some.ensures at c.loop-word.invariant.named in
    let added = rw c.in-Some-read_name.ensures.1 at c.in_ok-add.ensures.ok in
    record {
      all = names_more c.args.members c.loop-word.table c.add.new.self rest c.in-Some.word.now all added;
      named = and_right (is_name c.in-Some.word.now) (list_all is_name rest) named;
    }

pub returns : goal.returns
returns g c =
    let all = rw c.in_default.ensures.0 at c.loop-word.invariant.all in
    sym (all ∙ append-nil c.loop-word.table)
