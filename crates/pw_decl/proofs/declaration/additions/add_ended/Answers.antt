use Rattle.pw_decl.proofs.declaration.additions.add_ended.Goals as goal

pub returns-clause-name : goal.returns-clause-name
returns-clause-name g c = c.in_ok-add_compound_name.ensures.ok

pub returns-clause-compound : goal.returns-clause-compound
returns-clause-compound g c = rw (← c.add_compound_name.ensures.compounds) c.push_compound.ensures.compounds

pub returns-clause-flattened : goal.returns-clause-flattened
returns-clause-flattened g c = rw (← c.add_compound_name.ensures.flattened) c.push_compound.ensures.flattened
