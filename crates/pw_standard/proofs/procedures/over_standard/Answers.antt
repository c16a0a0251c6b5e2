use Rattle.std.proofs.Common.{[], ◌∷◌, ◌++◌, refl, ◌∙◌, ap}
use Rattle.pw_procs.specs.Meaning.{is_given_by_rules}
use Rattle.pw_procs.specs.Procedure.{procedure_of, procedures_of}
use Rattle.pw_procs.proofs.AddedProcedures.{procedures-added}
use Rattle.pw_standard.proofs.StandardLists.{HasTable, one_more}
use Rattle.pw_standard.proofs.procedures.over_standard.Goals as goal

pub lend-requires : goal.lend-requires
lend-requires g c =
    let sign = c.in_ok-add_by_rules.ensures.ok in
    let start : HasTable (procedure_of sign.added) [] (procedures_of c.add_by_rules.new.list.items) = (
      [],
      procedures-added _ _ _ _ _ _ sign ∙ ap (λ l. procedures_of l ++ procedure_of sign.added ∷ []) c.new-list.ensures.items,
      refl,
    ) in
    let table_1 = one_more _ _ _ _ _ _ c.in_ok-add_of_table.ensures.ok _ _ start in
    let table_2 = one_more _ _ _ _ _ _ c.in_ok-add_of_table-2.ensures.ok _ _ table_1 in
    let table_3 = one_more _ _ _ _ _ _ c.in_ok-add_of_table-3.ensures.ok _ _ table_2 in
    let table_4 = one_more _ _ _ _ _ _ c.in_ok-add_of_table-4.ensures.ok _ _ table_3 in
    let table_5 = one_more _ _ _ _ _ _ c.in_ok-add_of_table-5.ensures.ok _ _ table_4 in
    let table_6 = one_more _ _ _ _ _ _ c.in_ok-add_of_table-6.ensures.ok _ _ table_5 in
    let table_7 = one_more _ _ _ _ _ _ c.in_ok-add_of_table-7.ensures.ok _ _ table_6 in
    let table_8 = one_more _ _ _ _ _ _ c.in_ok-add_of_table-8.ensures.ok _ _ table_7 in
    let table_9 = one_more _ _ _ _ _ _ c.in_ok-add_of_table-9.ensures.ok _ _ table_8 in
    let table_10 = one_more _ _ _ _ _ _ c.in_ok-add_of_table-10.ensures.ok _ _ table_9 in
    let table_11 = one_more _ _ _ _ _ _ c.in_ok-add_of_table-11.ensures.ok _ _ table_10 in
    let table_12 = one_more _ _ _ _ _ _ c.in_ok-add_of_table-12.ensures.ok _ _ table_11 in
    let table_13 = one_more _ _ _ _ _ _ c.in_ok-add_of_table-13.ensures.ok _ _ table_12 in
    let table_14 = one_more _ _ _ _ _ _ c.in_ok-add_of_table-14.ensures.ok _ _ table_13 in
    record {
      sign = procedure_of sign.added;
      others = table_14.0;
      are = table_14.1;
      table = table_14.2;
      is_sign = record {
        name = sign.name_is;
        rules = ap is_given_by_rules sign.meaning_is;
        input = sign.inputs_are;
        output = (c.sign_set-set.result, c.sign_set-set.ensures.number, c.sign_set-set.ensures.size, sign.output_is);
      };
    }
