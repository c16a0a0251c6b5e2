use Rattle.std.proofs.Common.{refl, sym, ap, subst, inl, inr, rules}
use Rattle.pw_info.specs.declared.kind.Kind.{Kind}
use Rattle.pw_info.specs.declared.info.Info.{Info}
use Rattle.pw_info.specs.Spelling.{SpellsInfo}
use Rattle.pw_sessions.specs.declared.command.Command.TheVariants as commands
use Rattle.pw_decl.specs.Declaration.{members_of}
use Rattle.pw_decl.specs.inside.Fields.{declared}
use Rattle.pw_premises.specs.Premises.{Premises}
use Rattle.pw_transcript.proofs.ReadingLemmas.{not_none}
use Rattle.pw_transcript.proofs.command_text.resolve_tell.Goals as goal

pub returns-in_default-read_info : goal.returns-in_default-read_info
returns-in_default-read_info g c =
    let none : (info : Info) → SpellsInfo (members_of (declared c.args.declaration.now)) c.args.info.now c.cell_kind.result info → ⊥ = c.in_default-read_info.ensures.none in
    record {
      ok = tt;
      none = tt;
      err = inr (
        λ h. h,
        inr (
          not_none _ _ c.in-Some.ensures.number,
          inr (
            λ h. h,
            inl (
              refl,
              (
                c.in-Some.cell,
                sym c.in-Some.ensures.number,
                subst (λ (k : Kind). (info : Info) → SpellsInfo (members_of (declared c.args.declaration.now)) c.args.info.now k info → ⊥) c.cell_kind.ensures.kind none,
              ),
            ),
          ),
        ),
      );
    }

pub returns : goal.returns
returns g c =
    let spelled : SpellsInfo (members_of (declared c.args.declaration.now)) c.args.info.now c.cell_kind.result c.in-Some-read_info.info = c.in-Some-read_info.ensures.some in
    record {
      ok = (
        c.in-Some.cell,
        c.in-Some-read_info.info,
        sym c.in-Some.ensures.number,
        subst (λ (k : Kind). SpellsInfo (members_of (declared c.args.declaration.now)) c.args.info.now k c.in-Some-read_info.info) c.cell_kind.ensures.kind spelled,
        ap (λ (s : Premises). commands.Tell c.args.user c.in-Some.cell (record { info = c.in-Some-read_info.info; support = s })) (c.in-Ok.ensures.ok),
      );
      none = search rules;
      err = tt;
    }
