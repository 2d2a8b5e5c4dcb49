-- Operations of the client's own, one after another.
use Rattle.std.proofs.Common.{◌≡◌, ℕ, suc, ◌+◌, ◌≤◌, ◌<◌, List, [], ◌∷◌, ◌++◌, Result, Ok, Err, refl, sym, ◌∙◌, ap, subst, map, drop, length, get_or, arith, append-nil, append_assoc, length-append}
use Rattle.ft_op.specs.declared.operations.CellOp.{CellOp}
use Rattle.ft_msg.specs.declared.faults.EditFault.{EditFault}
use Rattle.ft_msg.specs.declared.faults.EditFault.TheVariants.{OutOfRange}
use Rattle.ft_op.specs.Operation.{OnGrid}
use Rattle.ft_op.specs.Document.{Document}
use Rattle.ft_op.specs.Intervals.{NamedElements}
use Rattle.ft_op.specs.Stages.{Stage}
use Rattle.ft_msg.specs.Client.{EditResult, local_grid, local_sub_operations}
use Rattle.ft_matrix.specs.declared.grid.Grid.{Grid}
use Rattle.ft_matrix.specs.Applied.{Holds}
use Rattle.ft_matrix.specs.OwnEdits.{TakesSome, TakesStage, TakesStages, behind, stage_of}
use Rattle.ft_matrix.proofs.AppliedSteps.{drop-all, drop-item}

behind-none : (r : Result (Document × List Stage) EditFault) → behind [] r ≡ r
behind-none (Ok made) = refl
behind-none (Err fault) = refl

behind-twice : (ts us : List Stage) (r : Result (Document × List Stage) EditFault) → behind ts (behind us r) ≡ behind (ts ++ us) r
behind-twice ts us (Ok made) = ap (λ vs. Ok (made.0, vs)) (sym (append_assoc ts us made.1))
behind-twice ts us (Err fault) = refl

plus-zero : (n : ℕ) → n ≡ n + 0
plus-zero n = omega arith

-- none is taken
pub none-taken : (last k : ℕ) (g : Grid) (doc : Document) (stages : List Stage) (all : List CellOp) → Holds last g doc stages
    → TakesSome last k 0 g doc stages all all
none-taken last k g doc stages all h = record {
  between = doc;
  taken = [];
  count = refl;
  now = subst (λ n. Holds n g doc (stages ++ [])) (plus-zero last) (subst (λ ts. Holds last g doc ts) (sym (append-nil stages)) h);
  same = behind-none (local_sub_operations doc (stages ++ []) (k + 0) (map (λ op. OnGrid op) all))
      ∙ ap (λ ts. local_sub_operations doc ts (k + 0) (map (λ op. OnGrid op) all)) (append-nil stages)
      ∙ ap (λ n. local_sub_operations doc stages n (map (λ op. OnGrid op) all)) (sym (plus-zero k));
}

-- the first of some is taken
pub taken-first : (doc later : Document) (stages : List Stage) (k : ℕ) (op : CellOp) (names : NamedElements) (ops : List CellOp)
    → local_grid doc k op ≡ Ok (later, names)
    → local_sub_operations doc stages k (map (λ o. OnGrid o) (op ∷ ops))
    ≡ behind (stage_of k op names ∷ []) (local_sub_operations later (stages ++ (stage_of k op names ∷ [])) (k + 1) (map (λ o. OnGrid o) ops))
taken-first doc later stages k op names ops e = ap after e ∙ same (local_sub_operations later (stages ++ (stage_of k op names ∷ [])) (k + 1) (map (λ o. OnGrid o) ops))
  where
    after : EditResult → Result (Document × List Stage) EditFault
    after r = elim r [
      | Err fault ↦ Err fault
      | Ok t ↦
          let s : Stage = record { stage = k; sub_operation = OnGrid op; names = t.1 } in
          elim (local_sub_operations t.0 (stages ++ (s ∷ [])) (k + 1) (map (λ o. OnGrid o) ops)) [ Err fault ↦ Err fault | Ok rest ↦ Ok (rest.0, s ∷ rest.1) ]
    ]

    same : (r : Result (Document × List Stage) EditFault)
        → elim r [ Err fault ↦ Err fault | Ok rest ↦ Ok (rest.0, stage_of k op names ∷ rest.1) ] ≡ behind (stage_of k op names ∷ []) r
    same (Ok rest) = refl
    same (Err fault) = refl

next-number : (k i : ℕ) → k + i + 1 ≡ k + (i + 1)
next-number k i = omega arith

pub one-taken : (last k i n : ℕ) (now later : Grid) (doc : Document) (stages : List Stage) (all : List CellOp) (op : CellOp) → n ≡ k + i
    → i < length all → op ≡ get_or all i op
    → ((d : Document) (ts : List Stage) → Holds (last + i) now d ts → TakesStage (last + i) n later d ts op)
    → TakesSome last k i now doc stages all (drop i all) → TakesSome last k (i + 1) later doc stages all (drop (i + 1) all)
one-taken last k i n now later doc stages all op e l g f p =
    let t = f p.between (stages ++ p.taken) p.now in
    let s = stage_of n op t.names in
    let assoc = append_assoc stages p.taken (stage_of n op t.names ∷ []) in
    record {
      between = t.later;
      taken = p.taken ++ (stage_of n op t.names ∷ []);
      count = length-append p.taken (stage_of n op t.names ∷ []) ∙ ap (λ m. m + 1) p.count;
      now = subst (λ ts. Holds (last + (i + 1)) later t.later ts) assoc
          (subst (λ m. Holds m later t.later ((stages ++ p.taken) ++ (stage_of n op t.names ∷ []))) (next-number last i) t.now);
      same = ap (λ ts. behind (p.taken ++ (stage_of n op t.names ∷ [])) (local_sub_operations t.later ts (k + (i + 1)) (map (λ o. OnGrid o) (drop (i + 1) all)))) (sym assoc)
          ∙ ap (λ m. behind (p.taken ++ (stage_of n op t.names ∷ []))
          (local_sub_operations t.later ((stages ++ p.taken) ++ (stage_of n op t.names ∷ [])) m
          (map (λ o. OnGrid o) (drop (i + 1) all))))
          (sym (next-number k i) ∙ ap (λ m. m + 1) (sym e))
          ∙ sym (behind-twice p.taken (stage_of n op t.names ∷ [])
          (local_sub_operations t.later ((stages ++ p.taken) ++ (stage_of n op t.names ∷ [])) (n + 1) (map (λ o. OnGrid o) (drop (i + 1) all))))
          ∙ ap (behind p.taken) (sym (taken-first p.between t.later (stages ++ p.taken) n op t.names (drop (i + 1) all) t.is))
          ∙ ap (λ m. behind p.taken (local_sub_operations p.between (stages ++ p.taken) m (map (λ o. OnGrid o) (op ∷ drop (i + 1) all)))) e
          ∙ ap (λ os. behind p.taken (local_sub_operations p.between (stages ++ p.taken) (k + i) (map (λ o. OnGrid o) os))) (sym (drop-item all i op l g))
          ∙ p.same;
    }

mapped-length : (ops : List CellOp) → length (map (λ o. OnGrid o) ops) ≡ length ops
mapped-length [] = refl
mapped-length (op ∷ ops) = ap suc (mapped-length ops)

pub all-taken : (last k i : ℕ) (now : Grid) (doc : Document) (stages : List Stage) (all : List CellOp) → length all ≤ i → i ≤ length all
    → TakesSome last k i now doc stages all (drop i all) → TakesStages last k now doc stages (map (λ o. OnGrid o) all)
all-taken last k i now doc stages all l m p =
    let same : i ≡ length all = omega arith in
    record {
      later = p.between;
      taken = p.taken;
      is = sym p.same ∙ ap (λ os. behind p.taken (local_sub_operations p.between (stages ++ p.taken) (k + i) (map (λ o. OnGrid o) os))) (drop-all all i l)
          ∙ ap (λ ts. Ok (p.between, ts)) (append-nil p.taken);
      count = p.count ∙ same ∙ sym (mapped-length all);
      holds = p.now.holds;
    }

-- one alone
pub alone-taken : (last k : ℕ) (g : Grid) (doc : Document) (stages : List Stage) (op : CellOp) → TakesStage last k g doc stages op
    → TakesStages last k g doc stages (OnGrid op ∷ [])
alone-taken last k g doc stages op t = record {
  later = t.later;
  taken = stage_of k op t.names ∷ [];
  is = taken-first doc t.later stages k op t.names [] t.is;
  count = refl;
  holds = t.now.holds;
}

pub alone-refused : (doc : Document) (stages : List Stage) (k n : ℕ) (op : CellOp) → local_grid doc k op ≡ Err (OutOfRange n)
    → local_sub_operations doc stages k (OnGrid op ∷ []) ≡ Err (OutOfRange n)
alone-refused doc stages k n op e = ap after e
  where
    after : EditResult → Result (Document × List Stage) EditFault
    after r = elim r [
      | Err fault ↦ Err fault
      | Ok t ↦
          let s : Stage = record { stage = k; sub_operation = OnGrid op; names = t.1 } in
          elim (local_sub_operations t.0 (stages ++ (s ∷ [])) (k + 1) []) [ Err fault ↦ Err fault | Ok rest ↦ Ok (rest.0, s ∷ rest.1) ]
    ]
