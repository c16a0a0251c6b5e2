use Rattle.pw_decl.proofs.compound_line.add_parameter.Goals as goal

pub returns-clause-names : goal.returns-clause-names
returns-clause-names g c = c.in_ok-add.ensures.ok

pub returns-clause-kinds : goal.returns-clause-kinds
returns-clause-kinds g c = c.in_ok-push.ensures.items

pub returns-clause-parameters : goal.returns-clause-parameters
returns-clause-parameters g c = c.in_ok-push-2.ensures.items
