-- A walk over the links of a list: its start, and how it goes on.
use Rattle.std.proofs.Common.{◌≡◌, ℕ, ◌+◌, ◌<◌, ◌≤◌, List, ◌∷◌, ◌++◌, length, map, drop, get_or, refl, sym, ap, subst, ◌∙◌, arith}
use Rattle.std.proofs.lemmas.List.{at_drop_more, get_or-map, length-map}
use Rattle.pw_network.specs.declared.instance_lists.Ends.{Ends}
use Rattle.pw_network.specs.declared.instance_lists.Link.{Link}
use Rattle.pw_network.specs.inside.Lists.{AreLinked, IsWalk, LeadsTo, Listed, next_of, numbers_for, listed_by}
use Rattle.pw_network.proofs.LinkLemmas.{leads_as, none_past, number_same, rest_past}

-- ---- the start

module _ (listed : List Listed) (nexts : List ℕ) (ends : List Ends) (linked : AreLinked listed nexts ends) where
  pub first_walk : (list : ℕ) (e : Ends) → list < length ends → e ≡ get_or ends list e → IsWalk listed nexts list e.first
  first_walk list e there read =
      subst (λ (a : Ends). IsWalk listed nexts list a.first) (sym read)
      (record { chained = linked.chained; of_list = (linked.firsts list e there).of_list })

  pub first_all : (list : ℕ) (e : Ends) → list < length ends → e ≡ get_or ends list e → numbers_for list (drop e.first listed) ≡ numbers_for list listed
  first_all list e there read = ap (λ (a : Ends). numbers_for list (drop a.first listed)) read ∙ (linked.firsts list e there).same

  -- of a list past the last there is nothing to walk
  pub past_all : (list at : ℕ) → length listed ≤ at → length ends ≤ list → numbers_for list (drop at listed) ≡ numbers_for list listed
  past_all list at past beyond = rest_past list at listed past ∙ sym (none_past listed (length ends) list linked.here beyond)

-- ---- how it goes on

module _ (links : List Link) (list at : ℕ) (d : Link) (there : at < length links) (walk : IsWalk (map listed_by links) (map next_of links) list at) where
  abbrev link : Link
  link = get_or links at d

  within : at < length (map listed_by links)
  within = let l = length-map links listed_by in omega arith

  of_list : (get_or (map listed_by links) at (listed_by d)).list ≡ list
  of_list = walk.of_list (listed_by d) within

  leads : LeadsTo (map listed_by links) list (at + 1) link.next
  leads = leads_as (map listed_by links) (get_or (map listed_by links) at (listed_by d)).list list (at + 1) (at + 1) (get_or (map next_of links) at 0) link.next
      of_list refl (get_or-map next_of links at d 0 there) (walk.chained at (listed_by d) within)

  pub walk_on : IsWalk (map listed_by links) (map next_of links) list link.next
  walk_on = record { chained = walk.chained; of_list = leads.of_list }

  pub walk_steps : numbers_for list (drop at (map listed_by links)) ≡ link.number ∷ numbers_for list (drop link.next (map listed_by links))
  walk_steps =
      let here = get_or (map listed_by links) at (listed_by d) in
      let own = ap (λ (r : Listed). r.number) (get_or-map listed_by links at d (listed_by d) there) in
      at_drop_more (numbers_for list) (map listed_by links) at (listed_by d) within
      ∙ ap (λ l. l ++ numbers_for list (drop (at + 1) (map listed_by links))) (number_same list here of_list)
      ∙ (λ i. own i ∷ sym leads.same i)
