use Rattle.std.proofs.Common.{◌≡◌, ◌+◌, ◌<◌, ◌≤◌, ◌++◌, ◌∷◌, [], List, All, get_or, length, map, take, sym, subst, ap, ◌∙◌, arith}
use Rattle.std.specs.FinSet.{is_subset}
use Rattle.std.proofs.lemmas.List.{length-map, map_push, take_all, take_more}
use Rattle.pw_premises.specs.Premises.{Premises}
use Rattle.pw_network.specs.inside.Held.{attachment}
use Rattle.pw_network.specs.Network.{Attached, HaveSupportsByLine}
use Rattle.pw_network.specs.Wiring.{wiring}
use Rattle.pw_settle.specs.Calls.{is_instance_visible, visible_at}
use Rattle.pw_settle.proofs.AsideGrowth.{AreNewTo, all_new, new_before, new_hidden, new_none, new_queued}
use Rattle.pw_settle.proofs.KeptProgress.{visible_no}
use Rattle.pw_settle.proofs.NewInstances.{item_is}
use Rattle.pw_settle.proofs.SeenLines.{IsFlagged, flag_of_item, flag_of_line, lines_of_items, none_flagged}
use Rattle.pw_settle.proofs.growing_aside.seen_anew.Goals as goal
use Rattle.pw_settle.proofs.growing_aside.seen_anew.Goals.{then-its_line-line, else-its_line-line, then-is_visible+then-not-was_visible, else-is_visible, else-is_visible-via-then-is_visible+else-not-was_visible, else-is_visible-via-else-is_visible}

pub loop-number-init : goal.loop-number-init
loop-number-init g c =
    let network = wiring c.args.network.now in
    let lines = lines_of_items network c.args.network.now.well c.instances-instances.result.now c.instances-instances.ensures.instances in
    let many : length (map attachment c.instances-instances.result.now) ≡ length network.attached = ap length c.instances-instances.ensures.instances in
    let long = length-map c.instances-instances.result.now attachment in
    let lines_here : All (λ (a : Attached). 1 ≤ a.line) network.attached =
    subst (All (λ (a : Attached). 1 ≤ a.line)) c.instances-instances.ensures.instances lines in
    record {
      items = c.in_ok-visible.ensures.items;
      room = omega (arith, c.in_ok-visible.ensures.len, c.in_ok-visible.ensures.capacity, many, long);
      new = new_none network c.args.earlier.now c.args.worldview.now c.in_ok-agenda.agenda (length c.instances-instances.result.now) (sym long ∙ many) c.in_ok-agenda.ensures;
      flag = none_flagged c.args.worldview.now _ network.attached lines_here;
      was_flag = none_flagged c.args.earlier.now _ network.attached lines_here;
    }

pub loop-number-preserved : goal.loop-number-preserved
loop-number-preserved g c =
    let network = wiring c.args.network.now in
    let w = c.args.worldview.now in
    let e = c.args.earlier.now in
    let all : List Attached = network.attached in
    let i = c.loop-number.number in
    let item = c.index-instances-number.result in
    let a : Attached = attachment item in
    let next = c.if-its_line-line in
    let supports : HaveSupportsByLine all = c.args.network.now.well.supports in
    let long = length-map c.instances-instances.result.now attachment in
    let many = ap length c.instances-instances.ensures.instances in
    let below : i < length all = omega (arith, c.loop-number-test.true, long, many) in
    let here : a ≡ get_or all i a = item_is c.instances-instances.result.now all c.instances-instances.ensures.instances i item c.index-instances-number.is in
    let longer : take (i + 1) all ≡ take i all ++ a ∷ [] = take_more all i a below ∙ ap (λ (x : Attached). take i all ++ x ∷ []) (sym here) in
    let known : (next.line ≡ (attachment item).line) × All (IsFlagged w next.line next.is_visible) all × All (IsFlagged e next.line next.was_visible) all =
    elim next.branch [
      | then-its_line-line b ↦ (
        b.line-is ∙ c.line-its_line.ensures,
        flag_of_line w all i a below here next.line next.is_visible (b.line-is ∙ c.line-its_line.ensures) supports
            (b.is_visible-is ∙ b.is_subset-is_visible.ensures.subset ∙ ap (λ (s : Premises). is_subset s w) b.support.ensures),
        flag_of_line e all i a below here next.line next.was_visible (b.line-is ∙ c.line-its_line.ensures) supports
            (b.was_visible-is ∙ b.is_subset-was_visible.ensures.subset ∙ ap (λ (s : Premises). is_subset s e) b.support-then-its_line-line.ensures),
      )
      | else-its_line-line b ↦ (
        b.line-is ∙ sym b.if-its_line-line.false ∙ c.line-its_line.ensures,
        λ k d there same. c.loop-number.invariant.flag k d there (sym b.line-is ∙ same) ∙ sym b.is_visible-is,
        λ k d there same. c.loop-number.invariant.was_flag k d there (sym b.line-is ∙ same) ∙ sym b.was_visible-is,
      )
    ] in
    let shown : is_instance_visible w a ≡ next.is_visible = flag_of_item w all i a below here next.line next.is_visible known.0 known.1 in
    let was : is_instance_visible e a ≡ next.was_visible = flag_of_item e all i a below here next.line next.was_visible known.0 known.2 in
    let shown_at : visible_at network w i ≡ next.is_visible = sym (visible_no network w i a below) ∙ ap (is_instance_visible w) (sym here) ∙ shown in
    let was_at : visible_at network e i ≡ next.was_visible = sym (visible_no network e i a below) ∙ ap (is_instance_visible e) (sym here) ∙ was in
    record {
      items = c.push_reserved.ensures.items
          ∙ (λ j. c.loop-number.invariant.items j ++ sym shown j ∷ [])
          ∙ sym (ap (map (is_instance_visible w)) longer ∙ map_push (is_instance_visible w) (take i all) a);
      room = omega (arith, c.loop-number.invariant.room, c.push_reserved.ensures.len, c.push_reserved.ensures.capacity);
      new = elim c.if-is_visible.branch [
        | then-is_visible+then-not-was_visible b ↦
            subst (AreNewTo network e w (i + 1)) (sym (b.agenda-is ∙ b.add.ensures))
            (new_queued network e w i c.loop-number.agenda c.loop-number.invariant.new below (shown_at ∙ b.if-is_visible.true) (was_at ∙ b.if-not-was_visible.true))
        | else-is_visible b ↦
            subst (AreNewTo network e w (i + 1)) (sym b.agenda-is)
            (elim b.else-is_visible.branch [
              | else-is_visible-via-then-is_visible+else-not-was_visible b' ↦
                  new_before network e w i c.loop-number.agenda c.loop-number.invariant.new (was_at ∙ b'.if-not-was_visible.false)
              | else-is_visible-via-else-is_visible b' ↦
                  new_hidden network e w i c.loop-number.agenda c.loop-number.invariant.new (shown_at ∙ b'.if-is_visible.false)
            ])
      ];
      flag = known.1;
      was_flag = known.2;
    }

pub returns-clause-visible : goal.returns-clause-visible
returns-clause-visible g c =
    let long = length-map c.instances-instances.result.now attachment in
    let many = ap length c.instances-instances.ensures.instances in
    c.loop-number.invariant.items
    ∙ ap (map (is_instance_visible c.args.worldview.now))
    (take_all c.loop-number.number (wiring c.args.network.now).attached (omega (arith, c.loop-number-test.false, long, many)))

pub returns-clause-flags : goal.returns-clause-flags
returns-clause-flags g c = c.loop-number.invariant.new.flags

pub returns-clause-new : goal.returns-clause-new
returns-clause-new g c =
    let long = length-map c.instances-instances.result.now attachment in
    let many = ap length c.instances-instances.ensures.instances in
    all_new (wiring c.args.network.now) c.args.earlier.now c.args.worldview.now c.loop-number.number c.loop-number.agenda c.loop-number.invariant.new
    (omega (arith, c.loop-number-test.false, long, many))
