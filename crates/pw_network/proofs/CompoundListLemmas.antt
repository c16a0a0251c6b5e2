-- The readers of inner cells: those of an attachment are given by the lists of its compound, and later attachments add none.
use Rattle.std.proofs.Common.{◌≡◌, ℕ, zero, suc, ◌+◌, ◌-◌, ◌<◌, ◌≤◌, inl, inr, false, ◌||◌, cond, List, [], ◌∷◌, ◌++◌, Bool, drop, length, map, take, get_or, eqb, refl, sym, ap, subst, ◌∙◌, append-nil, length-append, arith}
use Rattle.std.specs.Prelude.{All, IfOk, Result, Ok, Err, slice_get}
use Rattle.std.specs.FinSet as set
use Rattle.std.specs.List.{list_any}
use Rattle.std.proofs.lemmas.Bool.{cases_lt, ne_eqb}
use Rattle.std.proofs.lemmas.Bool.Decides.{eqb_tells}
use Rattle.std.proofs.Math.Bool.{or-false}
use Rattle.std.proofs.lemmas.List.{at_drop_all, drop_more, get_or_append_left, get_or-append_right, length_push, map-append, take_more}
use Rattle.std.proofs.lemmas.List.Elements.{All-map, All-tail, All-weaker}
use Rattle.pw_info.specs.declared.kind.Kind.{Kind}
use Rattle.pw_premises.specs.Premises.{Premises}
use Rattle.pw_decl.specs.declared.flat_call.FlatCall.{FlatCall}
use Rattle.pw_decl.specs.declared.step.Callable.{Callable}
use Rattle.pw_decl.specs.declared.step.Callable.TheVariants as callables
use Rattle.pw_decl.specs.Compound.{Compound}
use Rattle.pw_procs.specs.Registry.{cells_of}
use Rattle.pw_decl.specs.Expansion.{Instance, SpeaksOf, at_place, expansion_of, inner_kinds_of, instance_on, on_places, renamed}
use Rattle.pw_decl.specs.Limits.{most_inner_cells}
use Rattle.pw_decl.specs.inside.Held.{AreCallsOf, instances_of}
use Rattle.pw_decl.proofs.ExpansionFits.{expansion_speaks}
use Rattle.pw_network.specs.declared.compound_lists.CompoundLists.{CompoundLists}
use Rattle.pw_network.specs.declared.instance_lists.Link.{Link}
use Rattle.pw_network.specs.declared.network.InnerCell.{InnerCell as InnerType}
use Rattle.pw_network.specs.inside.CompoundLists.{AreOwnLists, AreReadAs, HasLists, IsListedAs, IsReadAs, ListsCalls, attached_calls, first_list, inner_made}
use Rattle.pw_network.specs.inside.Lists.{AddsNumber, LeavesFrom, Listed, listed_by, no_place, numbers_for}
use Rattle.pw_network.specs.Network.{Attached, AreDeclared, IsWellNetwork, MayAttach, Network, attached_at, cells_in, with_attached}
use Rattle.pw_network.specs.Readers.{numbers_from, reads, readers_from}
use Rattle.pw_network.specs.Writers.{writes}
use Rattle.pw_network.proofs.AppendedLemmas.{eqb_after}
use Rattle.pw_network.proofs.AttachedCalls.{calls_placed, some_is}
use Rattle.pw_network.proofs.AttachedCells.{inputs_on, instances_push, length-made, made_get}
use Rattle.pw_network.proofs.ReaderLemmas.{numbers_alike, numbers_append, numbers_more, numbers_none}

-- ---- a cell that instances do not read

reads_none : (c : ℕ) (inputs : List ℕ) → All (λ cell. c ≡ cell → ⊥) inputs → list_any (eqb c) inputs ≡ false
reads_none c [] others = refl
reads_none c (cell ∷ inputs) others =
    λ i. ne_eqb c cell (others 0 cell (omega arith)) i || reads_none c inputs (All-tail (λ cell. c ≡ cell → ⊥) cell inputs others) i

unread : (c : ℕ) (attached : List Attached) → All (λ a. SpeaksOf (λ cell. c ≡ cell → ⊥) a.instance) attached → readers_from attached c 0 ≡ []
unread c attached others =
    numbers_none (reads c) attached
    (All-weaker (λ a. SpeaksOf (λ cell. c ≡ cell → ⊥) a.instance) (λ a. reads c a ≡ false) (λ a speaks. reads_none c a.instance.inputs speaks.0) attached others)

-- nothing reads what is no cell
pub unread_past : (network : Network) → IsWellNetwork network → (c : ℕ) → cells_in network ≤ c → readers_from network.attached c 0 ≡ []
unread_past network well c past =
    let IsOther : ℕ → Type 0 = λ cell. c ≡ cell → ⊥ in
    unread c network.attached
    (All-weaker (λ a. SpeaksOf (λ cell. cell < cells_in network) a.instance) (λ a. SpeaksOf IsOther a.instance)
    (λ a speaks. (All-weaker (λ cell. cell < cells_in network) IsOther (λ cell below is. omega (arith, below, is, past)) a.instance.inputs speaks.0, λ is. let below = speaks.1 in omega (arith, below, is, past)))
    network.attached well.here)

-- ---- the cell at a place

-- it is an inner one just if the place is past the cells
eqb_placed : (cells : List ℕ) (first j place : ℕ) → All (λ cell. cell < first) cells →
    eqb (first + j) (at_place cells (λ k. first + k) place) ≡ eqb (length cells + j) place
eqb_placed [] first j place here = eqb_after first j place ∙ (let none : j ≡ length {A = ℕ} [] + j = omega arith in ap (λ n. eqb n place) none)
eqb_placed (cell ∷ cells) first j zero here =
    let below = here 0 cell (omega arith) in
    ne_eqb (first + j) cell (λ is. omega (arith, is, below)) ∙ sym (ne_eqb (length (cell ∷ cells) + j) zero (λ is. omega (arith, is)))
eqb_placed (cell ∷ cells) first j (suc place) here =
    let more : 1 + (length cells + j) ≡ length (cell ∷ cells) + j = omega arith in
    let next : 1 + place ≡ suc place = omega arith in
    eqb_placed cells first j place (All-tail (λ cell. cell < first) cell cells here)
    ∙ sym (eqb_after 1 (length cells + j) place) ∙ (λ i. eqb (more i) (next i))

any_placed : (cells : List ℕ) (first j : ℕ) (places : List ℕ) → All (λ cell. cell < first) cells →
    list_any (eqb (first + j)) (map (at_place cells (λ k. first + k)) places) ≡ list_any (eqb (length cells + j)) places
any_placed cells first j [] here = refl
any_placed cells first j (place ∷ places) here = λ i. eqb_placed cells first j place here i || any_placed cells first j places here i

placed_reads : (line : ℕ) (support : Premises) (cells : List ℕ) (first j : ℕ) (instances : List (Instance ℕ)) → All (λ cell. cell < first) cells →
    map (reads (first + j)) (map (attached_at line support) (map (renamed (at_place cells (λ k. first + k))) instances))
    ≡ map (reads (length cells + j)) (map (attached_at 0 set.empty) instances)
placed_reads line support cells first j [] here = refl
placed_reads line support cells first j (instance ∷ instances) here =
    λ i. any_placed cells first j instance.inputs here i ∷ placed_reads line support cells first j instances here i

-- ---- one more attachment

module _ (network : Network) (line : ℕ) (callable : Callable) (cells : List ℕ) (support : Premises) (well : IsWellNetwork network) (here : AreDeclared network cells) where
  abbrev more : List Attached
  more = map (attached_at line support) (expansion_of network.declared.compounds callable cells (λ j. cells_in network + j))

  -- the inner cells that were there have no new readers
  pub inner_stays : (c : ℕ) → length network.declared.cells ≤ c → c < cells_in network →
      readers_from (with_attached network line callable cells support).attached c 0 ≡ readers_from network.attached c 0
  inner_stays c inner there =
      let IsOther : ℕ → Type 0 = λ cell. c ≡ cell → ⊥ in
      let others : All (λ a. SpeaksOf IsOther a.instance) more =
      All-map (λ (a : Attached). SpeaksOf IsOther a.instance) (attached_at line support) (expansion_of network.declared.compounds callable cells (λ j. cells_in network + j))
      (expansion_speaks IsOther network.declared.compounds callable cells (λ j. cells_in network + j)
      (All-weaker (λ cell. cell < length network.declared.cells) IsOther (λ cell below is. omega (arith, below, is, inner)) cells here)
      (λ j within is. omega (arith, is, there))) in
      numbers_append (reads c) network.attached more
      ∙ ap (λ l. readers_from network.attached c 0 ++ map (λ n. length network.attached + n) l) (unread c more others)
      ∙ append-nil (readers_from network.attached c 0)

-- a new inner cell is read by what reads its place
module _ (network : Network) (line number : ℕ) (calls : List FlatCall) (cells : List ℕ) (support : Premises) (well : IsWellNetwork network)
    (are : AreCallsOf network.declared.compounds number calls) (may : MayAttach network line (callables.Compound number) cells)
    (few : length (inner_kinds_of network.declared.compounds (callables.Compound number)) ≤ most_inner_cells) where
  pub inner_comes : (j : ℕ) → readers_from (with_attached network line (callables.Compound number) cells support).attached (cells_in network + j) 0
      ≡ map (λ n. length network.attached + n) (readers_from (attached_calls calls) (length cells + j) 0)
  inner_comes j =
      let c = cells_in network + j in
      let count = length network.attached in
      let made = expansion_of network.declared.compounds (callables.Compound number) cells (λ j. cells_in network + j) in
      let IsOther : ℕ → Type 0 = λ cell. c ≡ cell → ⊥ in
      let old : All (λ a. SpeaksOf IsOther a.instance) network.attached =
      All-weaker (λ a. SpeaksOf (λ cell. cell < cells_in network) a.instance) (λ a. SpeaksOf IsOther a.instance)
      (λ a speaks. (All-weaker (λ cell. cell < cells_in network) IsOther (λ cell below is. omega (arith, below, is)) a.instance.inputs speaks.0, λ is. let below = speaks.1 in omega (arith, below, is)))
      network.attached well.here in
      let below = All-weaker (λ cell. cell < length network.declared.cells) (λ cell. cell < cells_in network) (λ cell declared. omega (arith, declared)) cells may.here in
      let alike : map (reads c) (map (attached_at line support) made) ≡ map (reads (length cells + j)) (attached_calls calls) =
      ap (λ l. map (reads c) (map (attached_at line support) l)) (sym (calls_placed network line number calls cells support well are may few (cells_in network) refl))
      ∙ placed_reads line support cells (cells_in network) j (instances_of calls) below in
      numbers_append (reads c) network.attached (map (attached_at line support) made)
      ∙ (λ i. unread c network.attached old i ++ map (λ n. count + n) (numbers_alike (reads c) (reads (length cells + j)) (map (attached_at line support) made) (attached_calls calls) alike i))

-- ---- the calls of a compound, one after another

-- a call is one instance
record IsOneInstance (procedure : ℕ) (places : List ℕ) : Type 0 where
  instance : Instance ℕ
  is : instance_on procedure places ≡ instance ∷ []
  output : drop (length places - 1) places ≡ instance.output ∷ []

one_instance : (procedure : ℕ) (places : List ℕ) → 1 ≤ length places → IsOneInstance procedure places
one_instance procedure [] some = absurd (omega (arith, some))
one_instance procedure (cell ∷ cells) some =
    record {
      instance = record { procedure = procedure; inputs = take (length cells) (cell ∷ cells); output = get_or (cell ∷ cells) (length cells) cell };
      is = refl;
      output =
          let last : length (cell ∷ cells) - 1 ≡ length cells = omega arith in
          ap (λ n. drop n (cell ∷ cells)) last
          ∙ drop_more (cell ∷ cells) (length cells) cell (omega arith)
          ∙ ap (λ l. get_or (cell ∷ cells) (length cells) cell ∷ l) (at_drop_all (λ l. l) (cell ∷ cells) (length cells + 1) (omega arith));
    }

module _ (calls : List FlatCall) (number : ℕ) (call : FlatCall) (there : number < length calls) (read : call ≡ get_or calls number call) (some : 1 ≤ length (cells_of call.places)) where
  abbrev one : IsOneInstance call.procedure (cells_of call.places)
  one = one_instance call.procedure (cells_of call.places) some

  calls_push : attached_calls (take (number + 1) calls) ≡ attached_calls (take number calls) ++ attached_at 0 set.empty one.instance ∷ []
  calls_push =
      ap attached_calls (take_more calls number call there ∙ ap (λ k. take number calls ++ k ∷ []) (sym read))
      ∙ ap (map (attached_at 0 set.empty)) (instances_push (take number calls) call)
      ∙ map-append (attached_at 0 set.empty) (instances_of (take number calls)) (instance_on call.procedure (cells_of call.places))
      ∙ ap (λ l. attached_calls (take number calls) ++ map (attached_at 0 set.empty) l) one.is

  pub count_more : length (attached_calls (take number calls)) ≡ number → length (attached_calls (take (number + 1) calls)) ≡ number + 1
  count_more count = let long = ap length calls_push in let all = length_push (attached_calls (take number calls)) (attached_at 0 set.empty one.instance) in omega (arith, long, all, count)

  -- lists to which one more is appended, as a test says, list the calls with it
  calls_more : (test : ℕ → Attached → Bool) (first places : ℕ) (named : List ℕ) (old new : List Listed) →
      ((place : ℕ) → list_any (eqb place) named ≡ test place (attached_at 0 set.empty one.instance)) →
      length (attached_calls (take number calls)) ≡ number → AddsNumber first places named number old new →
      ListsCalls test old first places (take number calls) → ListsCalls test new first places (take (number + 1) calls)
  calls_more test first places named old new are count added so_far place below =
      added.own place below
      ∙ (λ i. so_far place below i ++ cond (are place i) (number ∷ []) [])
      ∙ sym (ap (λ l. numbers_from (test place) l 0) calls_push
      ∙ numbers_more (test place) (attached_calls (take number calls)) (attached_at 0 set.empty one.instance) number (sym count))

  pub calls_read : (first places : ℕ) (inputs : List ℕ) (old new : List Listed) → inputs ≡ take (length (cells_of call.places) - 1) (cells_of call.places) →
      length (attached_calls (take number calls)) ≡ number → AddsNumber first places inputs number old new →
      ListsCalls reads old first places (take number calls) → ListsCalls reads new first places (take (number + 1) calls)
  calls_read first places inputs old new are =
      calls_more reads first places inputs old new
      (λ place. ap (list_any (eqb place)) (are ∙ sym (inputs_on call.procedure (cells_of call.places) one.instance one.is)))

  pub calls_written : (first places : ℕ) (outputs : List ℕ) (old new : List Listed) → outputs ≡ drop (length (cells_of call.places) - 1) (cells_of call.places) →
      length (attached_calls (take number calls)) ≡ number → AddsNumber first places outputs number old new →
      ListsCalls writes old first places (take number calls) → ListsCalls writes new first places (take (number + 1) calls)
  calls_written first places outputs old new are =
      calls_more writes first places outputs old new
      (λ place. ap (list_any (eqb place)) (are ∙ one.output) ∙ or-false (eqb place one.instance.output))

-- lists that are as they were list the same calls
pub calls_kept : (test : ℕ → Attached → Bool) (first places : ℕ) (calls : List FlatCall) (old new : List Listed) →
    ((place : ℕ) → place < places → numbers_for (first + place) new ≡ numbers_for (first + place) old) →
    ListsCalls test old first places calls → ListsCalls test new first places calls
calls_kept test first places calls old new kept so_far place below = kept place below ∙ so_far place below

-- ---- other lists

-- two lists of calls of one compound are the same instances, and the compound is the same
own_calls : (compounds : List Compound) (number other : ℕ) (calls its : List FlatCall) → number ≡ other → (are : AreCallsOf compounds number calls) → (also : AreCallsOf compounds other its) →
    are.compound ≡ also.compound
own_calls compounds number other calls its is are also =
    some_is are.compound also.compound (sym are.is ∙ ap (λ n. slice_get compounds n) is ∙ also.is)

calls_alike : (compounds : List Compound) (number other : ℕ) (calls its : List FlatCall) → number ≡ other → (are : AreCallsOf compounds number calls) → (also : AreCallsOf compounds other its) →
    attached_calls calls ≡ attached_calls its
calls_alike compounds number other calls its is are also =
    let same = own_calls compounds number other calls its is are also in
    ap (map (attached_at 0 set.empty))
    (are.calls_are ∙ (λ i. on_places (expansion_of compounds (callables.Compound (is i))) (length (same i).parameters)) ∙ sym also.calls_are)

-- lists that are there are still there, as they were
pub lists_kept : (least places : ℕ) (calls : List FlatCall) (first count more : ℕ) (old new : List Listed) → count ≤ more →
    ((list : ℕ) → least ≤ list → list < count → numbers_for list new ≡ numbers_for list old) →
    HasLists least places calls first count old → HasLists least places calls first more new
lists_kept least places calls first count more old new grows kept has =
    let from = has.from in
    let within = has.within in
    record {
      from = from;
      within = omega (arith, within, grows);
      read = calls_kept reads first places calls old new (λ place there. kept (first + place) (omega (arith, from)) (omega (arith, within, there))) has.read;
      written = calls_kept writes (first + places) places calls old new
          (λ place there. kept (first + places + place) (omega (arith, from)) (omega (arith, within, there))) has.written;
    }

-- the lists of all compounds, after one of them got its own
pub own_after : {A : Type 0} (compounds : List Compound) (least : ℕ) (number places : ℕ) (calls : List FlatCall) (are : AreCallsOf compounds number calls)
    (old new : CompoundLists A) (count more : ℕ) (before after : List Listed) →
    places ≡ length are.compound.parameters + length (inner_kinds_of compounds (callables.Compound number)) →
    ((other : ℕ) → (other ≡ number → ⊥) → first_list new other ≡ first_list old other) →
    ((list : ℕ) → list < count → numbers_for list after ≡ numbers_for list before) → count ≤ more →
    IsListedAs least places calls (first_list new number) more after →
    AreOwnLists compounds least old count before → AreOwnLists compounds least new more after
own_after compounds least number places calls are old new count more before after sizes others kept grows listed own other its also there =
    elim (eqb_tells other number) [
      | inl is ↦ (let has = listed (subst (λ n. first_list new n < no_place) is.1 there) in
          let same = calls_alike compounds number other calls its (sym is.1) are also in
          let compound = own_calls compounds number other calls its (sym is.1) are also in
          let same_places : places ≡ length also.compound.parameters + length (inner_kinds_of compounds (callables.Compound other)) =
          sizes ∙ (λ i. length (compound i).parameters + length (inner_kinds_of compounds (callables.Compound (sym is.1 i)))) in
          let from = has.from in
          let within = has.within in
          let first : first_list new number ≡ first_list new other = ap (first_list new) (sym is.1) in
          record {
            from = omega (arith, from, first);
            within = omega (arith, within, first, same_places);
            read = λ place below. ap (λ n. numbers_for (n + place) after) (sym first) ∙ has.read place (omega (arith, below, same_places))
                ∙ ap (λ l. readers_from l place 0) same;
            written = λ place below. (λ i. numbers_for (sym first i + sym same_places i + place) after) ∙ has.written place (omega (arith, below, same_places))
                ∙ ap (λ l. numbers_from (writes place) l 0) same;
          })
      | inr differs ↦ (let first = others other differs.1 in
          let has = own other its also (subst (λ n. n < no_place) first there) in
          subst (λ n. HasLists least (length also.compound.parameters + length (inner_kinds_of compounds (callables.Compound other))) its n more after) (sym first)
          (lists_kept least (length also.compound.parameters + length (inner_kinds_of compounds (callables.Compound other))) its (first_list old other) count more before after
          grows (λ list from below. kept list below) has))
    ]

-- the lists of all compounds, where instances were added to those of declared cells
pub own_later : {A : Type 0} (compounds : List Compound) (least now count more : ℕ) (held : CompoundLists A) (old new : List Listed) → now ≡ least → more ≡ count → LeavesFrom least count old new →
    AreOwnLists compounds least held count old → AreOwnLists compounds now held more new
own_later compounds least now count more held old new same long kept own =
    subst (λ n. AreOwnLists compounds n held more new) (sym same) (subst (λ n. AreOwnLists compounds least held n new) (sym long)
    (λ number calls are there.
    lists_kept least (length are.compound.parameters + length (inner_kinds_of compounds (callables.Compound number))) calls (first_list held number) count count old new (omega arith)
    kept (own number calls are there)))

-- what is said of the first list, if there is one
pub listed_if_ok : {E : Type 0} (result : Result ℕ E) (first : ℕ) (P : ℕ → Type 0) → IfOk result (λ n. n ≡ first) → IfOk result (λ n. n < no_place) → (first < no_place → P first) → IfOk result P
listed_if_ok (Ok n) first P is there has = subst P (sym is) (has (subst (λ n. n < no_place) is there))
listed_if_ok (Err e) first P is there has = tt

-- numbers of lists given in other ways
pub read_as : (least now count more : ℕ) (listed : List Listed) (attached : List Attached) (inner : List InnerType) → now ≡ least → more ≡ count →
    AreReadAs least count listed attached inner → AreReadAs now more listed attached inner
read_as least now count more listed attached inner same long read =
    subst (λ n. AreReadAs n more listed attached inner) (sym same) (subst (λ n. AreReadAs least n listed attached inner) (sym long) read)

-- more room changes nothing
module _ (least now count more : ℕ) (old new : List Link) (same : now ≡ least) (long : more ≡ count) (items : new ≡ old) where
  pub own_in_room : {A : Type 0} (compounds : List Compound) (held : CompoundLists A) → AreOwnLists compounds least held count (map listed_by old) → AreOwnLists compounds now held more (map listed_by new)
  own_in_room compounds held own =
      own_later compounds least now count more held (map listed_by old) (map listed_by new) same long (λ list from below. ap (λ l. numbers_for list (map listed_by l)) items) own

  pub inner_in_room : (attached : List Attached) (inner : List InnerType) → AreReadAs least count (map listed_by old) attached inner → AreReadAs now more (map listed_by new) attached inner
  inner_in_room attached inner read =
      read_as least now count more (map listed_by new) attached inner same long (subst (λ l. AreReadAs least count (map listed_by l) attached inner) (sym items) read)

  pub has_in_room : (places : ℕ) (calls : List FlatCall) (first : ℕ) → HasLists least places calls first count (map listed_by old) → HasLists now places calls first more (map listed_by new)
  has_in_room places calls first has =
      subst (λ n. HasLists n places calls first more (map listed_by new)) (sym same) (subst (λ n. HasLists least places calls first n (map listed_by new)) (sym long)
      (subst (λ l. HasLists least places calls first count (map listed_by l)) (sym items) has))

-- an inner cell is read as before
pub still_read : (least count more : ℕ) (old new : List Listed) (attached later : List Attached) (cell : ℕ) (inner : InnerType) → count ≤ more →
    ((list : ℕ) → least ≤ list → list < count → numbers_for list new ≡ numbers_for list old) →
    readers_from later cell 0 ≡ readers_from attached cell 0 →
    IsReadAs least count old attached cell inner → IsReadAs least more new later cell inner
still_read least count more old new attached later cell inner grows kept stays read =
    let within = read.within in
    record {
      from = read.from;
      within = omega (arith, within, grows);
      readers = stays ∙ read.readers ∙ ap (map (λ n. inner.first + n)) (sym (kept inner.list read.from within));
    }

-- all of them are, where nothing is attached
pub all_still_read : (least count more : ℕ) (old new : List Listed) (attached : List Attached) (inner : List InnerType) → count ≤ more →
    ((list : ℕ) → least ≤ list → list < count → numbers_for list new ≡ numbers_for list old) →
    AreReadAs least count old attached inner → AreReadAs least more new attached inner
all_still_read least count more old new attached inner grows kept read i d there =
    still_read least count more old new attached attached (least + i) (get_or inner i d) grows kept refl (read i d there)

-- all that were there are, where something is attached
module _ (network : Network) (line : ℕ) (callable : Callable) (cells : List ℕ) (support : Premises) (well : IsWellNetwork network) (here : AreDeclared network cells)
    (least count : ℕ) (old new : List Listed) (later : List Attached) (inner : List InnerType)
    (declared : least ≡ length network.declared.cells) (long : length inner ≡ length network.inner)
    (attached : later ≡ (with_attached network line callable cells support).attached) (kept : LeavesFrom least count old new)
    (read : AreReadAs least count old network.attached inner) where
  pub all_read_later : AreReadAs least count new later inner
  all_read_later i d there =
      subst (λ l. IsReadAs least count new l (least + i) (get_or inner i d)) (sym attached)
      (still_read least count count old new network.attached (with_attached network line callable cells support).attached (least + i) (get_or inner i d) (omega arith)
      kept
      (inner_stays network line callable cells support well here (least + i) (omega (arith, declared)) (omega (arith, declared, there, long)))
      (read i d there))

-- and those that a compound adds are read as its lists say
module _ (network : Network) (line number : ℕ) (calls : List FlatCall) (cells : List ℕ) (support : Premises) (kinds : List Kind) (well : IsWellNetwork network)
    (are : AreCallsOf network.declared.compounds number calls) (may : MayAttach network line (callables.Compound number) cells)
    (are_kinds : kinds ≡ inner_kinds_of network.declared.compounds (callables.Compound number)) (few : length kinds ≤ most_inner_cells)
    (least count : ℕ) (old new : List Listed) (later : List Attached) (inner after : List InnerType) (first list list_first : ℕ)
    (declared : least ≡ length network.declared.cells) (long : length inner ≡ length network.inner)
    (attached : later ≡ (with_attached network line (callables.Compound number) cells support).attached) (numbered : first ≡ length network.attached)
    (kept : LeavesFrom least count old new)
    (has : HasLists least (length cells + length kinds) calls list count old) (is_first : list_first ≡ list + length cells)
    (made : after ≡ inner ++ inner_made line first list_first 0 kinds)
    (read : AreReadAs least count old network.attached inner) where
  abbrev own : List InnerType
  own = inner_made line first list_first 0 kinds

  abbrev then : List Attached
  then = (with_attached network line (callables.Compound number) cells support).attached

  few_kinds : length (inner_kinds_of network.declared.compounds (callables.Compound number)) ≤ most_inner_cells
  few_kinds = let l = ap length are_kinds in omega (arith, l, few)

  new_read : (j i : ℕ) (d : InnerType) → j < length kinds → length inner + j ≡ i → IsReadAs least count new then (least + i) (get_or own j d)
  new_read j i d there is =
      let x = get_or own j d in
      let holds = made_get line first list_first 0 kinds j d there in
      let place = length cells + j in
      let from = has.from in
      let within = has.within in
      let at : x.list ≡ list + place = let l = holds.list_is in omega (arith, l, is_first) in
      let cell : cells_in network + j ≡ least + i = omega (arith, long, declared, is) in
      record {
        from = omega (arith, at, from);
        within = omega (arith, at, within, there);
        readers = ap (λ n. readers_from then n 0) (sym cell)
            ∙ inner_comes network line number calls cells support well are may few_kinds j
            ∙ ap (map (λ n. length network.attached + n)) (sym (kept (list + place) (omega (arith, from)) (omega (arith, within, there)) ∙ has.read place (omega (arith, there))))
            ∙ (λ k. map (λ n. sym (holds.first_is ∙ numbered) k + n) (numbers_for (sym at k) new));
      }

  pub all_read_after : AreReadAs least count new later after
  all_read_after i d there =
      let all = length-append inner own in
      let many = length-made line first list_first 0 kinds in
      let within : i < length (inner ++ own) = subst (λ l. i < length l) made there in
      subst (λ l. IsReadAs least count new later (least + i) (get_or l i d)) (sym made)
      (elim (cases_lt i (length inner)) [
        | inl before ↦ subst (λ x. IsReadAs least count new later (least + i) x) (sym (get_or_append_left inner own d i before))
            (all_read_later network line (callables.Compound number) cells support well may.here least count old new later inner declared long attached kept read i d before)
        | inr past ↦ subst (λ x. IsReadAs least count new later (least + i) x) (sym (get_or-append_right inner own (length inner) i d refl past))
            (subst (λ l. IsReadAs least count new l (least + i) (get_or own (i - length inner) d)) (sym attached)
            (new_read (i - length inner) i d (omega (arith, within, all, many, past)) (omega (arith, past))))
      ])
