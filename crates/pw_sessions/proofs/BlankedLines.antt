-- Blanking the lines that a reply does not rest on leaves the reply unchanged.
use Rattle.std.proofs.Common.{◌≡◌, ℕ, ◌+◌, eqb, Bool, true, false, List, [], ◌∷◌, ◌++◌, length, Some, Contains, refl, sym, ap, subst, ◌∙◌, inl, inr, append-nil, append_assoc, length-append, arith}
use Rattle.std.specs.List.{list_any}
use Rattle.std.specs.FinSet.{is_subset}
use Rattle.std.proofs.lemmas.Bool.{cases_Bool, both_ways}
use Rattle.std.proofs.lemmas.List.Elements.{Contains-append_left, Contains-append_right, filter-append}
use Rattle.pw_premises.specs.Premises.{Premises}
use Rattle.pw_decl.specs.Declaration.{Declared}
use Rattle.pw_settle.proofs.Membership.{contains_first}
use Rattle.pw_reasons.specs.declared.groups.Groups.{Groups}
use Rattle.pw_reasons.specs.Combinations.{groups_of}
use Rattle.pw_sessions.specs.declared.command.Command.{Command}
use Rattle.pw_sessions.specs.declared.command.Command.TheVariants as commands
use Rattle.pw_sessions.specs.Answer.{answer_to, reply_to, user_of}
use Rattle.pw_sessions.specs.Values.{is_visible, visible_in}
use Rattle.pw_sessions.specs.Beliefs.{after_choice, all_premises, believed_after, beliefs_at, beliefs_from}
use Rattle.pw_sessions.specs.Blanking.{blanked_for, blanked_from, kept_if, rests_on, tried_at, tried_by, tried_from, tried_in, tried_with}
use Rattle.pw_sessions.specs.Choosing.{chosen_in}
use Rattle.pw_sessions.specs.Entries.{Entry, entries_before, entries_of}
use Rattle.pw_sessions.specs.Reply.{LineReading, Blank, Refused, Says}
use Rattle.pw_sessions.proofs.FurtherLines.{beliefs_at-snoc, entries_before-snoc}
use Rattle.pw_sessions.proofs.ListMembers.{any_member}
use Rattle.pw_sessions.proofs.VisibleEntries.{answer-tried, chosen_seen}

-- a test that finds nothing fails at each element
nowhere : {X : Type 0} (p : X → Bool) (xs : List X) (x : X) → list_any p xs ≡ false → Contains xs x → p x ≡ false
nowhere p xs x none there = elim (cases_Bool (p x)) [
  | inl passes ↦ absurd (both_ways (list_any p xs) none (any_member p xs x there passes))
  | inr fails ↦ fails
]

-- both show the same entries in these premises
abbrev Shows : List LineReading → List LineReading → Premises → Type 0
Shows some others w = visible_in (entries_before some) w ≡ visible_in (entries_before others) w

-- where both show the same in what is tried, the same is chosen
same_choice : (d : Declared) (some others : List LineReading) (beliefs : Premises) (groups : List (List ℕ)) → Shows some others (tried_with beliefs groups) →
    chosen_in d (entries_before some) beliefs groups ≡ chosen_in d (entries_before others) beliefs groups
same_choice d some others beliefs groups same =
    sym (chosen_seen d (entries_before some) beliefs groups)
    ∙ ap (λ (l : List Entry). chosen_in d l beliefs groups) same
    ∙ chosen_seen d (entries_before others) beliefs groups

-- so the user believes the same after an own choose line
same_after : (d : Declared) (user : ℕ) (some before : List LineReading) (beliefs : Premises) → beliefs ≡ beliefs_at d user before →
    (other : ℕ) (groups : Groups) → eqb other user ≡ true →
    ((w : Premises) → Contains (tried_at d user before (Says (commands.Choose other groups))) w → Shows some before w) →
    after_choice beliefs (groups_of groups) (chosen_in d (entries_before some) beliefs (groups_of groups))
    ≡ after_choice beliefs (groups_of groups) (chosen_in d (entries_before before) beliefs (groups_of groups))
same_after d user some before beliefs is other groups own shows =
    let tried : Premises = tried_with (beliefs_at d user before) (groups_of groups) in
    let among : Contains (tried_at d user before (Says (commands.Choose other groups))) tried = rw own (contains_first tried []) in
    ap (after_choice beliefs (groups_of groups)) (same_choice d some before beliefs (groups_of groups)
    (subst (λ (b : Premises). Shows some before (tried_with b (groups_of groups))) (sym is) (shows tried among)))

module _ (user : ℕ) (later : List Premises) where
  -- a line, made blank where the user does not rest on it
  abbrev kept : LineReading → LineReading
  kept reading = kept_if (rests_on user later reading) reading

  -- it leaves the same visible entries in each set that is tried later
  same_entries : (w : Premises) → Contains later w → (number : ℕ) (reading : LineReading) →
      visible_in (entries_of number (kept reading)) w ≡ visible_in (entries_of number reading) w
  same_entries w there number Blank = refl
  same_entries w there number (Refused refusal) = refl
  same_entries w there number (Says (commands.Tell other cell fact)) = elim (cases_Bool (list_any (λ tried. is_subset fact.support tried) later)) [
    | inl seen ↦ rw seen refl
    | inr hidden ↦ let none = nowhere (λ tried. is_subset fact.support tried) later w hidden there in rw hidden (rw none refl)
  ]
  same_entries w there number (Says (commands.Attach other callable cells support)) = elim (cases_Bool (list_any (λ tried. is_subset support tried) later)) [
    | inl seen ↦ rw seen refl
    | inr hidden ↦ let none = nowhere (λ tried. is_subset support tried) later w hidden there in rw hidden (rw none refl)
  ]
  same_entries w there number (Says (commands.Believe other premises)) = elim (cases_Bool (eqb other user)) [
    | inl own ↦ rw own refl
    | inr foreign ↦ rw foreign refl
  ]
  same_entries w there number (Says (commands.Doubt other premises)) = elim (cases_Bool (eqb other user)) [
    | inl own ↦ rw own refl
    | inr foreign ↦ rw foreign refl
  ]
  same_entries w there number (Says (commands.Choose other groups)) = elim (cases_Bool (eqb other user)) [
    | inl own ↦ rw own refl
    | inr foreign ↦ rw foreign refl
  ]
  same_entries w there number (Says (commands.Beliefs other)) = refl
  same_entries w there number (Says (commands.Ask other cell)) = refl
  same_entries w there number (Says (commands.Why other cell)) = refl
  same_entries w there number (Says (commands.Conflicts other)) = refl

  -- it leaves the user the same beliefs, after lines of which both show the same in what the user
  -- tries there
  same_beliefs : (d : Declared) (some before : List LineReading) (beliefs : Premises) → beliefs ≡ beliefs_at d user before → (reading : LineReading) →
      ((w : Premises) → Contains (tried_at d user before reading) w → Shows some before w) →
      believed_after d user some beliefs (kept reading) ≡ believed_after d user before beliefs reading
  same_beliefs d some before beliefs is Blank shows = refl
  same_beliefs d some before beliefs is (Refused refusal) shows = refl
  same_beliefs d some before beliefs is (Says (commands.Tell other cell fact)) shows = elim (cases_Bool (list_any (λ tried. is_subset fact.support tried) later)) [
    | inl seen ↦ rw seen refl
    | inr hidden ↦ rw hidden refl
  ]
  same_beliefs d some before beliefs is (Says (commands.Attach other callable cells support)) shows = elim (cases_Bool (list_any (λ tried. is_subset support tried) later)) [
    | inl seen ↦ rw seen refl
    | inr hidden ↦ rw hidden refl
  ]
  same_beliefs d some before beliefs is (Says (commands.Believe other premises)) shows = elim (cases_Bool (eqb other user)) [
    | inl own ↦ rw own (rw own refl)
    | inr foreign ↦ rw foreign refl
  ]
  same_beliefs d some before beliefs is (Says (commands.Doubt other premises)) shows = elim (cases_Bool (eqb other user)) [
    | inl own ↦ rw own (rw own refl)
    | inr foreign ↦ rw foreign refl
  ]
  same_beliefs d some before beliefs is (Says (commands.Choose other groups)) shows = elim (cases_Bool (eqb other user)) [
    | inl own ↦ rw own (rw own (same_after d user some before beliefs is other groups own shows))
    | inr foreign ↦ rw foreign refl
  ]
  same_beliefs d some before beliefs is (Says (commands.Beliefs other)) shows = refl
  same_beliefs d some before beliefs is (Says (commands.Ask other cell)) shows = refl
  same_beliefs d some before beliefs is (Says (commands.Why other cell)) shows = refl
  same_beliefs d some before beliefs is (Says (commands.Conflicts other)) shows = refl

module _ (d : Declared) (user : ℕ) (last : Premises) where
  -- the sets that are tried at the lines to come and at last
  abbrev still : List LineReading → List LineReading → List Premises
  still before readings = tried_from d user before readings ++ last ∷ []

  -- one more line, perhaps blanked, shows the same in each set that is still tried
  same_more : (before some : List LineReading) → length some ≡ length before → (reading : LineReading) (readings : List LineReading) →
      ((w : Premises) → Contains (still (before ++ reading ∷ []) readings) w → Shows some before w) →
      (w : Premises) → Contains (still (before ++ reading ∷ []) readings) w →
      Shows (some ++ kept user (still (before ++ reading ∷ []) readings) reading ∷ []) (before ++ reading ∷ []) w
  same_more before some many reading readings shows w there =
      let later : List Premises = still (before ++ reading ∷ []) readings in
      let own : LineReading = kept user later reading in
      ap (λ (l : List Entry). visible_in l w) (entries_before-snoc some own)
      ∙ filter-append (is_visible w) (entries_before some) (entries_of (length some + 1) own)
      ∙ ap (λ (l : List Entry). l ++ visible_in (entries_of (length some + 1) own) w) (shows w there)
      ∙ ap (λ (l : List Entry). visible_in (entries_before before) w ++ l) (same_entries user later w there (length some + 1) reading)
      ∙ ap (λ n. visible_in (entries_before before) w ++ visible_in (entries_of (n + 1) reading) w) many
      ∙ sym (filter-append (is_visible w) (entries_before before) (entries_of (length before + 1) reading))
      ∙ ap (λ (l : List Entry). visible_in l w) (sym (entries_before-snoc before reading))

  -- what is left of further lines, after what is left of earlier ones, leaves the user the same
  -- beliefs, and shows the same in the set that is tried at last
  walk : (before some : List LineReading) → length some ≡ length before → (beliefs : Premises) → beliefs ≡ beliefs_at d user before →
      (readings : List LineReading) → ((w : Premises) → Contains (still before readings) w → Shows some before w) →
      (beliefs_from d user some beliefs (blanked_from d user last before readings) ≡ beliefs_from d user before beliefs readings)
      × Shows (some ++ blanked_from d user last before readings) (before ++ readings) last
  walk before some many beliefs is [] shows = (refl, rw (append-nil some, append-nil before) (shows last (contains_first last [])))
  walk before some many beliefs is (reading ∷ readings) shows =
      let next : List LineReading = before ++ reading ∷ [] in
      let here : List Premises = tried_at d user before reading in
      let rest : List Premises = tried_from d user next readings in
      let own : LineReading = kept user (still next readings) reading in
      let left : List LineReading = blanked_from d user last next readings in
      let then : Premises = believed_after d user before beliefs reading in
      let same : believed_after d user some beliefs own ≡ then =
      same_beliefs user (still next readings) d some before beliefs is reading
      (λ w there. shows w (Contains-append_left (here ++ rest) (last ∷ []) w (Contains-append_left here rest w there))) in
      let longer : length (some ++ own ∷ []) ≡ length next = omega (arith, many, length-append some (own ∷ []), length-append before (reading ∷ [])) in
      let further = walk next (some ++ own ∷ []) longer then
      (ap (λ (b : Premises). believed_after d user before b reading) is ∙ sym (beliefs_at-snoc d user before reading)) readings
      (same_more before some many reading readings
      (λ w there. shows w (subst (λ (l : List Premises). Contains l w) (sym (append_assoc here rest (last ∷ [])))
      (Contains-append_right here (still next readings) w there)))) in (
        ap (λ (b : Premises). beliefs_from d user (some ++ own ∷ []) b left) same ∙ further.0,
        subst (λ (l : List LineReading). Shows (some ++ own ∷ left) l last) (append_assoc before (reading ∷ []) readings)
            (subst (λ (l : List LineReading). Shows l (next ++ readings) last) (append_assoc some (own ∷ []) left) further.1),
      )

-- ---- replies

-- the answer to a command is one from the entries that are visible in what is tried
answer_of_tried : (d : Declared) (some others : List Entry) (beliefs : Premises) (command : Command) →
    visible_in some (tried_by beliefs command) ≡ visible_in others (tried_by beliefs command) →
    answer_to d some beliefs command ≡ answer_to d others beliefs command
answer_of_tried d some others beliefs command same =
    sym (answer-tried d some beliefs command)
    ∙ ap (λ (l : List Entry). answer_to d l beliefs command) same
    ∙ answer-tried d others beliefs command

-- the lines that a reply does not rest on may be made blank
pub reply-blanked : (d : Declared) (before : List LineReading) (last : LineReading) → reply_to d (blanked_for d before last) last ≡ reply_to d before last
reply-blanked d before Blank = refl
reply-blanked d before (Refused refusal) = refl
reply-blanked d before (Says command) =
    let user : ℕ = user_of command in
    let left : List LineReading = blanked_from d user (tried_in d before command) [] before in
    let walked = walk d user (tried_in d before command) [] [] refl (all_premises d) refl before (λ w there. refl) in
    ap (λ (b : Premises). Some (answer_to d (entries_before left) b command)) walked.0
    ∙ ap (λ a. Some a) (answer_of_tried d (entries_before left) (entries_before before) (beliefs_at d user before) command walked.1)
