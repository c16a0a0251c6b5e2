-- What is kept of the cells that came since an earlier settling is read, one cell after another.
use Rattle.std.proofs.Common.{◌≡◌, ℕ, ◌+◌, ◌<◌, ◌≤◌, ◌++◌, eqb, List, [], ◌∷◌, length, refl, sym, ap, ◌∙◌, subst, arith, inl, inr, length-append}
use Rattle.std.specs.FinSet.{empty}
use Rattle.std.proofs.lemmas.Bool.{cases_Bool, eqb-false, eqb-true}
use Rattle.std.proofs.lemmas.List.{append_assoc, get_or_append_left, get_or_push}
use Rattle.pw_info.specs.declared.kind.Kind.TheVariants as kinds
use Rattle.pw_info.specs.declared.info.Info.{Info}
use Rattle.pw_info.specs.Information.{nothing}
use Rattle.pw_premises.specs.Premises.{Premises}
use Rattle.pw_cells.specs.Cells.{Store, fact_on}
use Rattle.pw_cells.specs.Shown.{IsKeptIn}
use Rattle.pw_settle.specs.Settled.{info_at, support_at}
use Rattle.pw_settle.specs.inside.Known.{ListsOneMore}
use Rattle.pw_settle.specs.inside.Since.{AreReadTo, BeginsWith}

-- what begins with a list that begins so begins so too
pub begins_still : {A : Type 0} (first list longer : List A) → BeginsWith first list → BeginsWith list longer → BeginsWith first longer
begins_still first list longer begins more =
    (begins.0 ++ more.0, more.1 ∙ ap (λ l. l ++ more.0) begins.1 ∙ append_assoc first begins.0 more.0)

-- so does one with one item more
pub begins_more : {A : Type 0} (first list : List A) (item : A) (longer : List A) → BeginsWith first list → longer ≡ list ++ item ∷ [] → BeginsWith first longer
begins_more first list item longer begins is = begins_still first list longer begins (item ∷ [], is)

module _ (store : Store) (w : Premises) (first : List Info) (first_supports : List Premises) where
  -- at first none was read
  pub read_first : length first_supports ≡ length first → AreReadTo store w (length first) first first first_supports first_supports
  read_first as_many = record {
    many = refl;
    as_many = as_many;
    infos_stay = λ cell below. refl;
    supports_stay = λ cell below. refl;
    read = λ cell past below. absurd (omega (arith, past, below));
  }

  -- and one more
  module _ (count : ℕ) (infos more_infos : List Info) (supports more_supports : List Premises)
      (so_far : AreReadTo store w count first infos first_supports supports) (least : length first ≤ count)
      (more : ListsOneMore (λ info support. IsKeptIn store count w (fact_on info support)) infos more_infos supports more_supports) where
    abbrev info : Info
    info = more.fact.info

    abbrev support : Premises
    support = more.fact.support

    info_below : (cell : ℕ) → cell < count → info_at more_infos cell ≡ info_at infos cell
    info_below cell below =
        ap (λ (l : List Info). info_at l cell) more.infos_are
        ∙ get_or_append_left infos (info ∷ []) (nothing kinds.Interval) cell (omega (arith, below, so_far.many))

    support_below : (cell : ℕ) → cell < count → support_at more_supports cell ≡ support_at supports cell
    support_below cell below =
        ap (λ (l : List Premises). support_at l cell) more.supports_are
        ∙ get_or_append_left supports (support ∷ []) empty cell (omega (arith, below, so_far.as_many))

    last : IsKeptIn store count w (fact_on (info_at more_infos count) (support_at more_supports count))
    last =
        let info_is : info_at more_infos count ≡ info =
        ap (λ (l : List Info). info_at l count) more.infos_are ∙ get_or_push infos info (nothing kinds.Interval) count so_far.many in
        let support_is : support_at more_supports count ≡ support =
        ap (λ (l : List Premises). support_at l count) more.supports_are ∙ get_or_push supports support empty count so_far.as_many in
        subst (λ (i : Info). IsKeptIn store count w (fact_on i (support_at more_supports count))) (sym info_is)
        (subst (λ (s : Premises). IsKeptIn store count w (fact_on info s)) (sym support_is) more.is)

    pub read_next : AreReadTo store w (count + 1) first more_infos first_supports more_supports
    read_next = record {
      many = ap length more.infos_are ∙ length-append infos (info ∷ []) ∙ one_more (length infos) so_far.many;
      as_many = ap length more.supports_are ∙ length-append supports (support ∷ []) ∙ one_more (length supports) so_far.as_many;
      infos_stay = λ cell below. info_below cell (omega (arith, below, least)) ∙ so_far.infos_stay cell below;
      supports_stay = λ cell below. support_below cell (omega (arith, below, least)) ∙ so_far.supports_stay cell below;
      read = λ cell past below. elim (cases_Bool (eqb cell count)) [
        | inl is ↦
            subst (λ (c : ℕ). IsKeptIn store c w (fact_on (info_at more_infos c) (support_at more_supports c))) (sym (eqb-true cell count is)) last
        | inr other ↦
            let less : cell < count = omega (arith, below, eqb-false cell count other) in
            subst (λ (i : Info). IsKeptIn store cell w (fact_on i (support_at more_supports cell))) (sym (info_below cell less))
            (subst (λ (s : Premises). IsKeptIn store cell w (fact_on (info_at infos cell) s)) (sym (support_below cell less)) (so_far.read cell past less))
      ];
    } where
      one_more : (n : ℕ) → n ≡ count → n + 1 ≡ count + 1
      one_more n is = ap (λ (k : ℕ). k + 1) is
