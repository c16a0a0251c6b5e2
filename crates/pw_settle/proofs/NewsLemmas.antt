-- What an instance of a network makes of what is at hand.
use Rattle.std.proofs.Common.{◌≡◌, ℕ, ◌<◌, List, [], ◌∷◌, All, length, map, get_or, sym, ap, ◌∙◌, subst, arith}
use Rattle.std.specs.Prelude.{IfNone, IfSome, None, Option, Some}
use Rattle.std.proofs.Math.ListN.{get_or-map}
use Rattle.std.proofs.lemmas.List.{get_or_default, length-map}
use Rattle.pw_info.specs.declared.kind.Kind.{Kind}
use Rattle.pw_info.specs.declared.kind.Kind.TheVariants as kinds
use Rattle.pw_info.specs.declared.info.Info.{Info}
use Rattle.pw_info.specs.Information.{kind_of, nothing, Implies}
use Rattle.pw_premises.specs.Premises.{Premises}
use Rattle.pw_procs.specs.Procedure.{Procedure}
use Rattle.pw_network.specs.declared.instance.Instance.{Instance}
use Rattle.pw_network.specs.inside.Held.{attachment}
use Rattle.pw_network.specs.Network.{Attached, Network, IsWellNetwork}
use Rattle.pw_cells.specs.Cells.{IsUnsaid}
use Rattle.pw_settle.specs.inside.Known.{Gives, GivesNews, GivesNone, IsPlaced, joined, news_on}
use Rattle.pw_settle.specs.inside.Progress.{IsNews}
use Rattle.pw_settle.specs.Values.{IsSatisfied, attached_no}
use Rattle.pw_settle.specs.Settled.{info_at}
use Rattle.pw_settle.specs.Sources.{IsImplied, said_by}
use Rattle.pw_settle.specs.Values.{kinds_in, numbered, propagators_of}
use Rattle.pw_settle.proofs.PlacedInstances.{all_sources, kind-info_at, the_source}
use Rattle.pw_settle.proofs.SettledValues.{all_placed}

-- the instance of this number as it is kept
pub kept_instance : (network : Network) (instances : List Instance) (number : ℕ) (instance d : _) → map attachment instances ≡ network.attached →
    number < length network.attached → instance ≡ get_or instances number instance → attached_no network number d ≡ attachment instance
kept_instance network instances number instance d same below is =
    sym (ap (λ l. get_or l number d) same)
    ∙ get_or_default (map attachment instances) number d (attachment instance) (omega (arith, below, ap length same))
    ∙ get_or-map attachment instances number instance ∙ ap attachment (sym is)

-- news that the procedure gave are news of the instance
pub news_given : (procedures : List Procedure) (known : List Info) (a : Attached) (info : Info) → Gives procedures known a info →
    kind_of info ≡ (numbered (map kind_of known)).kind a.instance.output → (found : Option Info) → IfSome found (λ news. news ≡ info) →
    IfSome found (λ news. IsUnsaid (info_at known a.instance.output) news) → IfSome found (GivesNews procedures known a)
news_given procedures known a info gives kind (Some news) same unsaid =
    subst (GivesNews procedures known a) (sym same) (record {
      gives = gives;
      kind = kind;
      news = subst (IsUnsaid (info_at known a.instance.output)) same unsaid;
    })
news_given procedures known a info gives kind None same unsaid = same

-- and what it gave is no news where it was known
pub none_given : (procedures : List Procedure) (known : List Info) (a : Attached) (info : Info) → Gives procedures known a info →
    (found : Option Info) → IfNone found (Implies (info_at known a.instance.output) info) → IfNone found (GivesNone procedures known a)
none_given procedures known a info gives (Some news) said = said
none_given procedures known a info gives None said = record {
  info = info;
  gives = gives;
  said = said;
}

-- a cell of the list is there
pub cell_there : (known : List Info) (inputs cells : List ℕ) (place : ℕ) → cells ≡ inputs → All (λ cell. cell < length (map kind_of known)) inputs →
    place < length cells → get_or cells place 0 < length known
cell_there known inputs cells place same there below =
    let all : All (λ cell. cell < length (map kind_of known)) cells = subst (All (λ cell. cell < length (map kind_of known))) (sym same) there in
    omega (arith, all place 0 below, length-map known kind_of)

module _ (network : Network) (well : IsWellNetwork network) (infos : List Info) (procedures : List Procedure) (number : ℕ) (a : Attached)
    (same : procedures ≡ network.declared.procedures) (kinds_are : map kind_of infos ≡ kinds_in network)
    (below : number < length network.attached) (is : (d : Attached) → attached_no network number d ≡ a) where
  -- its cells are there
  pub placed_here : IsPlaced procedures (map kind_of infos) a.instance
  placed_here =
      subst (λ (ps : List Procedure). IsPlaced ps (map kind_of infos) a.instance) (sym same)
      (subst (λ (ks : List Kind). IsPlaced network.declared.procedures ks a.instance) (sym kinds_are)
      (subst (λ (b : Attached). IsPlaced network.declared.procedures (kinds_in network) b.instance) (is a) (all_placed network well number a below)))

  pub output_there : a.instance.output < length infos
  output_there = omega (arith, placed_here.0.1, length-map infos kind_of)

  pub inputs_there : (count : ℕ) → count ≡ length infos → All (λ input. input < count) a.instance.inputs
  inputs_there count as_many i d within = omega (arith, placed_here.0.0 i d within, as_many, length-map infos kind_of)

  -- what is at hand of its output, read with any default, and its kind
  pub output_read : (info : Info) → get_or infos a.instance.output info ≡ info_at infos a.instance.output
  output_read info = get_or_default infos a.instance.output info (nothing kinds.Interval) output_there

  pub output_kind : (info : Info) → kind_of info ≡ (numbered (map kind_of infos)).kind a.instance.output →
      kind_of info ≡ kind_of (info_at infos a.instance.output)
  output_kind info kind = kind ∙ sym (kind-info_at infos a.instance.output)

  -- what its procedure says
  pub said_here : (info : Info) → All (λ source. said_by (info_at infos) source ≡ info) (propagators_of procedures (a.instance ∷ [])) → (d : Attached) →
      All (λ source. said_by (info_at infos) source ≡ info) (propagators_of network.declared.procedures ((attached_no network number d).instance ∷ []))
  said_here info says d =
      subst (λ (b : Attached). All (λ source. said_by (info_at infos) source ≡ info) (propagators_of network.declared.procedures (b.instance ∷ []))) (sym (is d))
      (subst (λ (ps : List Procedure). All (λ source. said_by (info_at infos) source ≡ info) (propagators_of ps (a.instance ∷ []))) same says)

  -- if the output says it already, the instance is satisfied
  pub satisfied_here : (info : Info) → All (λ source. said_by (info_at infos) source ≡ info) (propagators_of procedures (a.instance ∷ [])) →
      Implies (info_at infos a.instance.output) info → (d : Attached) → IsSatisfied network (info_at infos) (attached_no network number d)
  satisfied_here info says implied d =
      subst (IsSatisfied network (info_at infos)) (sym (is d))
      (subst (λ (ps : List Procedure). All (IsImplied (info_at infos)) (propagators_of ps (a.instance ∷ []))) same
      (all_sources procedures (map kind_of infos) a.instance placed_here (IsImplied (info_at infos))
      (subst (Implies (info_at infos a.instance.output))
      (sym (the_source procedures (map kind_of infos) a.instance placed_here (λ source. said_by (info_at infos) source ≡ info) says)) implied)))

  -- news that it gave are news of the instance
  pub news_here : (info : Info) → GivesNews procedures infos a info → (supports : List Premises) → (d : Attached) →
      IsNews network infos supports (attached_no network number d) a.instance.output (news_on supports a info)
  news_here info gives supports d = record {
    output = ap (λ (b : Attached). b.instance.output) (sym (is d));
    says = said_here info gives.gives d;
    rests = ap (λ (b : Attached). joined supports b.support b.instance.inputs) (sym (is d));
    new = gives.news;
  }

  -- and where it gave none, the instance is satisfied
  pub none_here : GivesNone procedures infos a → (d : Attached) → IsSatisfied network (info_at infos) (attached_no network number d)
  none_here none = satisfied_here none.info none.gives none.said
