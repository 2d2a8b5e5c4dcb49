-- What the log and the clients have cost: one for each message, one for each edit and noop that is still to be numbered, and
-- one for each element that these insert.
use Rattle.std.proofs.Common.{◌≡◌, ℕ, ◌+◌, ◌≤◌, Bool, true, false, cond, ◌||◌, List, [], ◌∷◌, ◌++◌, Option, Some, None, map, filter, flat_map, fold, drop, find, refl, sym, ◌∙◌, ap, subst, arith, length}
use Rattle.std.specs.List.{list_any}
use Rattle.std.proofs.lemmas.Slice.Eq.{bytes_eq-Decides}
use Rattle.ft_op.specs.declared.operations.ChannelOp.{ChannelOp}
use Rattle.ft_msg.specs.declared.messages.Body.{Body}
use Rattle.ft_msg.specs.declared.messages.Body.TheVariants.{Nothing, Op, Elsewhere}
use Rattle.ft_msg.specs.declared.messages.Draft.{Draft}
use Rattle.ft_msg.specs.declared.messages.Entry.{Entry}
use Rattle.ft_props.specs.Element.{ElementId}
use Rattle.ft_props.specs.Properties.{Characters}
use Rattle.ft_op.specs.Document.{Document}
use Rattle.ft_op.specs.Operation.{OnGrid, OnIntervals, OnText, SubOperation, sub_operations}
use Rattle.ft_op.specs.Pieces.{pieces}
use Rattle.ft_op.specs.Stages.{Stage}
use Rattle.ft_msg.specs.Acknowledgement.{renamed_edit, renamed_stage}
use Rattle.ft_msg.specs.Client.{NaiveClient, PendingEdit, SentAs}
use Rattle.ft_msg.specs.Reconnection.{carried_stage, sent_draft, regenerated_edit, resubmitted_edit, resubmitted_edits}
use Rattle.ft_msg.specs.WellFormed.{has_body}
use Rattle.ft_seqr.specs.World.{NamedClient, body_load, in_place, inserted_count, is_client, op_load}
use Rattle.ft_laws_agreement.specs.Sequencing.{Each}
use Rattle.ft_laws_summaries.proofs.Lists.{filter-more}
use Rattle.ft_laws_sessions.proofs.ConnectionNames.{any-placed}
use Rattle.ft_laws_sessions.proofs.Links.{IsAnswered, IsFirstQueued, IsQueued, is_owed, owed, owed-more}

-- ---- sums

-- the sum of f over a list
abbrev pub total : {A : Type 0} → (A → ℕ) → List A → ℕ
total f [] = 0
total f (x ∷ xs) = f x + total f xs

pub total-append : {A : Type 0} (f : A → ℕ) (xs ys : List A) → total f (xs ++ ys) ≡ total f xs + total f ys
total-append f [] ys = omega arith
total-append f (x ∷ xs) ys = let ih = total-append f xs ys in omega (arith, ih)

pub total-map : {A B : Type 0} (f : B → ℕ) (g : A → B) (h : A → ℕ) → ((x : A) → f (g x) ≡ h x) → (xs : List A) → total f (map g xs) ≡ total h xs
total-map f g h same [] = refl
total-map f g h same (x ∷ xs) = let ih = total-map f g h same xs in let e = same x in omega (arith, ih, e)

pub total-same : {A : Type 0} (f g : A → ℕ) (xs : List A) → Each (λ x. g x ≡ f x) xs → total g xs ≡ total f xs
total-same f g [] h = refl
total-same f g (x ∷ xs) h = let ih = total-same f g xs h.1 in let e = h.0 in omega (arith, ih, e)

pub total-less : {A : Type 0} (f g : A → ℕ) → ((x : A) → g x ≤ f x) → (xs : List A) → total g xs ≤ total f xs
total-less f g h [] = omega arith
total-less f g h (x ∷ xs) = let ih = total-less f g h xs in let e = h x in omega (arith, ih, e)

-- what some of a list cost
pub total-filter : {A : Type 0} (f : A → ℕ) (test : A → Bool) (xs : List A) → total f (filter test xs) ≤ total f xs
total-filter f test [] = omega arith
total-filter f test (x ∷ xs) = by (test x) (total-filter f test xs)
  where
    by : (b : Bool) → total f (filter test xs) ≤ total f xs → total f (cond b (x ∷ filter test xs) (filter test xs)) ≤ f x + total f xs
    by true h = omega (arith, h)
    by false h = omega (arith, h)

-- each element costs at most what all cost
pub each-within : {A : Type 0} (f : A → ℕ) (xs : List A) (n : ℕ) → total f xs ≤ n → Each (λ x. f x ≤ n) xs
each-within f [] n h = tt
each-within f (x ∷ xs) n h = (omega (arith, h), each-within f xs n (omega (arith, h)))

-- ---- edits beyond those that are in the log

-- the second list without as many elements as the first one has
abbrev pub behind : {A B : Type 0} → List A → List B → List B
behind [] ys = ys
behind (x ∷ xs) [] = []
behind (x ∷ xs) (y ∷ ys) = behind xs ys

pub behind-more : {A B : Type 0} (f : B → ℕ) (xs : List A) (ys : List B) (y : B) → total f (behind xs (ys ++ (y ∷ []))) ≤ total f (behind xs ys) + f y
behind-more f [] ys y = let e = total-append f ys (y ∷ []) in omega (arith, e)
behind-more f (x ∷ []) [] y = omega arith
behind-more f (x ∷ z ∷ xs) [] y = omega arith
behind-more f (x ∷ xs) (z ∷ ys) y = behind-more f xs ys y

pub behind-none : {A B : Type 0} (xs : List A) → behind {B = B} xs [] ≡ []
behind-none [] = refl
behind-none (x ∷ xs) = refl

pub behind-append : {A B : Type 0} (xs zs : List A) (ys : List B) → behind (xs ++ zs) ys ≡ behind zs (behind xs ys)
behind-append [] zs ys = refl
behind-append (x ∷ xs) zs [] = sym (behind-none zs)
behind-append (x ∷ xs) zs (y ∷ ys) = behind-append xs zs ys

pub behind-map : {A B C : Type 0} (f : B → C) (xs : List A) (ys : List B) → behind xs (map f ys) ≡ map f (behind xs ys)
behind-map f [] ys = refl
behind-map f (x ∷ xs) [] = refl
behind-map f (x ∷ xs) (y ∷ ys) = behind-map f xs ys

pub each-behind_some : {A B : Type 0} (P : B → Type 0) (xs : List A) (ys : List B) → Each P ys → Each P (behind xs ys)
each-behind_some P [] ys h = h
each-behind_some P (x ∷ xs) [] h = h
each-behind_some P (x ∷ xs) (y ∷ ys) h = each-behind_some P xs ys h.1

-- what is known of the edits behind the answered ones
pub answered-behind : (es : List Entry) (edits : List PendingEdit) (R : List PendingEdit → Type 0) → IsAnswered es edits R → R (behind es edits)
answered-behind [] edits R h = h
answered-behind (e ∷ es) [] R h = absurd h
answered-behind (e ∷ es) (edit ∷ edits) R h = answered-behind es edits R h.1

-- ---- costs

-- how many elements an operation inserts
abbrev pub op_inserts : ChannelOp → ℕ
op_inserts op = total inserted_count (sub_operations op)

abbrev pub body_inserts : Body → ℕ
body_inserts Nothing = 0
body_inserts (Op op) = op_inserts op
body_inserts (Elsewhere address) = 0

-- how many elements a stage inserts
abbrev pub stage_inserts : Stage → ℕ
stage_inserts t = inserted_count t.sub_operation

-- how many elements an edit inserts
abbrev pub edit_inserts : PendingEdit → ℕ
edit_inserts e = total stage_inserts e.stages

-- one for a message, and one for each element
abbrev pub entry_cost : Entry → ℕ
entry_cost e = 1 + body_inserts e.msg.body

abbrev pub edit_cost : PendingEdit → ℕ
edit_cost e = 1 + edit_inserts e

-- one for a noop
abbrev pub body_noops : Body → ℕ
body_noops Nothing = 1
body_noops (Op op) = 0
body_noops (Elsewhere address) = 0

abbrev pub noops : Draft → ℕ
noops d = body_noops d.body

-- the edits and noops of a client that are still to be numbered
abbrev pub owing : List ℕ → List Entry → List PendingEdit → List Draft → ℕ
owing conns rest pending queue = total edit_cost (behind (owed conns rest) pending) + total noops queue

-- those of a client that took the log but for the rest
abbrev pub owing_of : NaiveClient → List Entry → ℕ
owing_of x rest = owing x.conns rest x.pending x.queue

-- those of a client of a world with this log
abbrev pub debt : List Entry → NamedClient → ℕ
debt log c = owing_of c.client (drop c.client.doc.number log)

fold-total : (os : List SubOperation) (n : ℕ) → n + length os + total inserted_count os ≤ fold (λ n o. n + (1 + inserted_count o)) n os
fold-total [] n = omega arith
fold-total (o ∷ os) n = let ih = fold-total os (n + (1 + inserted_count o)) in omega (arith, ih)

pub inserts-loaded : (op : ChannelOp) → op_inserts op ≤ op_load op
inserts-loaded op = let h = fold-total (sub_operations op) 0 in omega (arith, h)

-- how many sub-operations a body has
abbrev pub body_count : Body → ℕ
body_count (Op op) = length (sub_operations op)
body_count _ = 0

pub body-loaded : (b : Body) → body_inserts b + body_count b ≤ body_load b
body-loaded Nothing = omega arith
body-loaded (Op op) = let h = fold-total (sub_operations op) 0 in omega (arith, h)
body-loaded (Elsewhere address) = omega arith

-- ---- a renaming costs nothing

stages-renamed : (f : ElementId → ElementId) (e : PendingEdit) → edit_cost (renamed_edit f e) ≡ edit_cost e
stages-renamed f e = ap (λ n. 1 + n) (total-map stage_inserts (renamed_stage f) stage_inserts (λ t. refl) e.stages)

pub renamed-cost : {A : Type 0} (f : ElementId → ElementId) (es : List A) (edits : List PendingEdit) → total edit_cost (behind es (map (renamed_edit f) edits))
    ≡ total edit_cost (behind es edits)
renamed-cost f es edits = ap (total edit_cost) (behind-map (renamed_edit f) es edits) ∙ total-map edit_cost (renamed_edit f) edit_cost (stages-renamed f) (behind es edits)

-- ---- what is sent again costs no more

stage-carried : (doc : Document) (t : Stage) (o : SubOperation) → total stage_inserts (carried_stage doc (record t { sub_operation = o })) ≤ inserted_count o
stage-carried doc t (OnIntervals op) = omega arith
stage-carried doc t (OnText op) = by (pieces doc (record t { sub_operation = OnText op }))
  where
    by : (ps : List SubOperation) → total stage_inserts (elim ps [ [] ↦ [] | _ ∷ _ ↦ record t { sub_operation = OnText op } ∷ [] ]) ≤ inserted_count (OnText op)
    by [] = omega arith
    by (p ∷ ps) = omega arith
stage-carried doc t (OnGrid op) = by (pieces doc (record t { sub_operation = OnGrid op }))
  where
    by : (ps : List SubOperation) → total stage_inserts (elim ps [ [] ↦ [] | _ ∷ _ ↦ record t { sub_operation = OnGrid op } ∷ [] ]) ≤ inserted_count (OnGrid op)
    by [] = omega arith
    by (p ∷ ps) = omega arith

stages-carried : (doc : Document) (stages : List Stage) → total stage_inserts (flat_map (carried_stage doc) stages) ≤ total stage_inserts stages
stages-carried doc [] = omega arith
stages-carried doc (t ∷ stages) =
    let one = stage-carried doc t t.sub_operation in
    let ih = stages-carried doc stages in
    let sum = total-append stage_inserts (carried_stage doc t) (flat_map (carried_stage doc) stages) in
    omega (arith, one, ih, sum)

pub resubmitted-cost : (doc : Document) (conn n : ℕ) (edits : List PendingEdit) → total edit_cost (resubmitted_edits doc conn n edits) ≤ total edit_cost edits
resubmitted-cost doc conn n [] = omega arith
resubmitted-cost doc conn n (edit ∷ edits) = by (regenerated_edit doc edit) (resubmitted-cost doc conn n edits) (resubmitted-cost doc conn (n + 1) edits)
  where
    again : Option ChannelOp → List PendingEdit
    again None = resubmitted_edits doc conn n edits
    again (Some op) = resubmitted_edit doc conn n edit op ∷ resubmitted_edits doc conn (n + 1) edits

    by : (o : Option ChannelOp) → total edit_cost (resubmitted_edits doc conn n edits) ≤ total edit_cost edits
        → total edit_cost (resubmitted_edits doc conn (n + 1) edits) ≤ total edit_cost edits
        → total edit_cost (again o) ≤ edit_cost edit + total edit_cost edits
    by None same more = omega (arith, same)
    by (Some op) same more = let carried = stages-carried doc edit.stages in omega (arith, more, carried)

pub resubmitted-noops : (doc : Document) (conn n r : ℕ) (edits : List PendingEdit) → total noops (flat_map (sent_draft r) (resubmitted_edits doc conn n edits)) ≡ 0
resubmitted-noops doc conn n r [] = refl
resubmitted-noops doc conn n r (edit ∷ edits) = by (regenerated_edit doc edit) (resubmitted-noops doc conn n r edits) (resubmitted-noops doc conn (n + 1) r edits)
  where
    again : Option ChannelOp → List PendingEdit
    again None = resubmitted_edits doc conn n edits
    again (Some op) = resubmitted_edit doc conn n edit op ∷ resubmitted_edits doc conn (n + 1) edits

    by : (o : Option ChannelOp) → total noops (flat_map (sent_draft r) (resubmitted_edits doc conn n edits)) ≡ 0
        → total noops (flat_map (sent_draft r) (resubmitted_edits doc conn (n + 1) edits)) ≡ 0
        → total noops (flat_map (sent_draft r) (again o)) ≡ 0
    by None same more = same
    by (Some op) same more = omega (arith, more)

-- ---- what is owed after each step

pub owing-foreign : (conns : List ℕ) (rest : List Entry) (e : Entry) (pending : List PendingEdit) (queue : List Draft) → is_owed conns e ≡ false
    → owing conns rest pending queue ≡ owing conns (e ∷ rest) pending queue
owing-foreign conns rest e pending queue h = sym (ap (λ b. total edit_cost (behind (cond b (e ∷ owed conns rest) (owed conns rest)) pending) + total noops queue) h)

pub owing-own : (conns : List ℕ) (rest : List Entry) (e : Entry) (edit : PendingEdit) (edits : List PendingEdit) (f : ElementId → ElementId)
    (queue : List Draft) → is_owed conns e ≡ true
    → owing conns rest (map (renamed_edit f) edits) queue ≡ owing conns (e ∷ rest) (edit ∷ edits) queue
owing-own conns rest e edit edits f queue h =
    ap (λ n. n + total noops queue) (renamed-cost f (owed conns rest) edits)
    ∙ sym (ap (λ b. total edit_cost (behind (cond b (e ∷ owed conns rest) (owed conns rest)) (edit ∷ edits)) + total noops queue) h)

pub owing-join : (conns : List ℕ) (rest : List Entry) (e : Entry) (doc : Document) (pending : List PendingEdit) (queue : List Draft) → is_owed conns e ≡ false
    → owed conns rest ≡ []
    → owing conns rest (resubmitted_edits doc e.origin 1 pending) (flat_map (sent_draft doc.number) (resubmitted_edits doc e.origin 1 pending)) ≤ owing conns (e ∷ rest) pending queue
owing-join conns rest e doc pending queue h none =
    let edits = resubmitted_edits doc e.origin 1 pending in
    let after : total edit_cost (behind (owed conns rest) edits) ≡ total edit_cost edits = ap (λ es. total edit_cost (behind es edits)) none in
    let before : total edit_cost (behind (owed conns rest) pending) ≡ total edit_cost pending = ap (λ es. total edit_cost (behind es pending)) none in
    let same = owing-foreign conns rest e pending queue h in
    let less = resubmitted-cost doc e.origin 1 pending in
    let zero = resubmitted-noops doc e.origin 1 doc.number pending in
    omega (arith, after, before, same, less, zero)

pub owing-more : (conns : List ℕ) (rest : List Entry) (e : Entry) (pending : List PendingEdit) (queue : List Draft) → is_owed conns e ≡ false
    → owing conns (rest ++ (e ∷ [])) pending queue ≡ owing conns rest pending queue
owing-more conns rest e pending queue h = ap (λ es. total edit_cost (behind es pending) + total noops queue) (owed-more conns rest e h)

pub owing-edited : (conns : List ℕ) (rest : List Entry) (pending : List PendingEdit) (edit : PendingEdit) (queue : List Draft)
    → owing conns rest (pending ++ (edit ∷ [])) queue ≤ owing conns rest pending queue + edit_cost edit
owing-edited conns rest pending edit queue = let h = behind-more edit_cost (owed conns rest) pending edit in omega (arith, h)

-- as an edit was sent, it inserts what its stages do
abbrev pub IsPricedAs : ℕ → Option SentAs → Type 0
IsPricedAs n None = Unit {0}
IsPricedAs n (Some sent) = op_inserts sent.op ≡ n

abbrev pub IsPriced : PendingEdit → Type 0
IsPriced e = IsPricedAs (edit_inserts e) e.sent

first-priced : (conn : ℕ) (d : Draft) (op : ChannelOp) (edits : List PendingEdit) (R : List PendingEdit → Type 0) → IsFirstQueued conn d (Op op) edits R → Each IsPriced edits
    → total edit_cost (behind (op ∷ []) edits) + (1 + op_inserts op) ≤ total edit_cost edits
first-priced conn d op [] R h p = absurd h
first-priced conn d op (edit ∷ edits) R h p =
    let same : op_inserts op ≡ edit_inserts edit = subst (IsPricedAs (edit_inserts edit)) h.0.0 p.0 in
    omega (arith, same)

behind-one : {A B C : Type 0} (x : A) (y : B) (zs : List C) → behind (x ∷ []) zs ≡ behind (y ∷ []) zs
behind-one x y [] = refl
behind-one x y (z ∷ zs) = refl

-- the first draft of the queue was numbered
pub owing-sent : (conn : ℕ) (conns : List ℕ) (rest : List Entry) (e : Entry) (pending : List PendingEdit) (d : Draft) (ds : List Draft) → e.msg.body ≡ d.body
    → is_owed conns e ≡ has_body d.body
    → IsAnswered (owed conns rest) pending (λ ys. IsQueued conn (d ∷ ds) ys) → Each IsPriced pending
    → owing conns (rest ++ (e ∷ [])) pending ds + entry_cost e ≤ owing conns rest pending (d ∷ ds)
owing-sent conn conns rest e pending d ds same o a p = by d.body refl
  where
    cost : (b : Body) → d.body ≡ b → entry_cost e ≡ 1 + body_inserts b
    cost b h = ap (λ b. 1 + body_inserts b) (same ∙ h)

    count : (b : Body) → d.body ≡ b → total noops (d ∷ ds) ≡ body_noops b + total noops ds
    count b h = ap (λ b. body_noops b + total noops ds) h

    last : List PendingEdit
    last = behind (owed conns rest) pending

    first : IsQueued conn (d ∷ ds) (behind (owed conns rest) pending)
    first = answered-behind (owed conns rest) pending (λ ys. IsQueued conn (d ∷ ds) ys) a

    by : (b : Body) → d.body ≡ b → owing conns (rest ++ (e ∷ [])) pending ds + entry_cost e ≤ owing conns rest pending (d ∷ ds)
    by Nothing h =
        let none = owing-more conns rest e pending ds (o ∙ ap has_body h) in
        let c = cost Nothing h in
        let n = count Nothing h in
        omega (arith, none, c, n)
    by (Op op) h =
        let more : owed conns (rest ++ (e ∷ [])) ≡ owed conns rest ++ (e ∷ []) = filter-more (is_owed conns) rest e
        ∙ ap (λ b. owed conns rest ++ (cond b (e ∷ []) [])) (o ∙ ap has_body h) in
        let moved : behind (owed conns (rest ++ (e ∷ []))) pending ≡ behind (op ∷ []) last =
        ap (λ es. behind es pending) more ∙ (behind-append (owed conns rest) (e ∷ []) pending ∙ behind-one e op last) in
        let sum : total edit_cost (behind (owed conns (rest ++ (e ∷ []))) pending) ≡ total edit_cost (behind (op ∷ []) last) = ap (total edit_cost) moved in
        let less = first-priced conn d op last (λ es. IsQueued conn ds es) (subst (λ b. IsFirstQueued conn d b last (λ es. IsQueued conn ds es)) h first)
        (each-behind_some IsPriced (owed conns rest) pending p) in
        let c = cost (Op op) h in
        let n = count (Op op) h in
        omega (arith, sum, less, c, n)
    by (Elsewhere address) h = absurd (subst (λ b. IsFirstQueued conn d b last (λ es. IsQueued conn ds es)) h first)

-- ---- clients by their names

-- no two clients have one name
abbrev pub AreDistinct : List NamedClient → Type 0
AreDistinct [] = Unit {0}
AreDistinct (c ∷ cs) = (list_any (is_client c.name) cs ≡ false) × AreDistinct cs

-- the same of all that the test doesn't find
abbrev pub OthersSame : Characters → (NamedClient → ℕ) → (NamedClient → ℕ) → List NamedClient → Type 0
OthersSame name f g cs = Each (λ c. is_client name c ≡ false → g c ≡ f c) cs

none-placed : (f g : NamedClient → ℕ) (d : NamedClient) (cs : List NamedClient) → list_any (is_client d.name) cs ≡ false → OthersSame d.name f g cs
    → total g (map (in_place d) cs) ≡ total f cs
none-placed f g d [] h o = refl
none-placed f g d (c ∷ cs) h o = by (is_client d.name c) refl h (λ k. none-placed f g d cs k o.1)
  where
    rest : Bool
    rest = list_any (is_client d.name) cs

    by : (b : Bool) → is_client d.name c ≡ b → b || rest ≡ false → (rest ≡ false → total g (map (in_place d) cs) ≡ total f cs)
        → g (cond b d c) + total g (map (in_place d) cs) ≡ f c + total f cs
    by true e k ih = (cc)
    by false e k ih = let i = ih k in let same = o.0 e in omega (arith, i, same)

-- a client in the place of the one that was found
pub total-placed : (f g : NamedClient → ℕ) (name : Characters) (c d : NamedClient) (cs : List NamedClient) → AreDistinct cs → find (is_client name) cs ≡ Some c
    → d.name ≡ name → OthersSame name f g cs
    → total g (map (in_place d) cs) + f c ≡ total f cs + g d
total-placed f g name c d [] a h s o = (cc)
total-placed f g name c d (x ∷ cs) a h s o = by (is_client name x) refl h (λ k. total-placed f g name c d cs a.1 k s o.1)
  where
    by : (b : Bool) → is_client name x ≡ b → cond b (Some x) (find (is_client name) cs) ≡ Some c
        → (find (is_client name) cs ≡ Some c → total g (map (in_place d) cs) + f c ≡ total f cs + g d)
        → g (cond (is_client d.name x) d x) + total g (map (in_place d) cs) + f c ≡ f x + total f cs + g d
    by true e k ih =
        let here : x ≡ c = (cc) in
        let is : is_client d.name x ≡ true = ap (λ n. is_client n x) s ∙ e in
        let same : d.name ≡ x.name = s ∙ (bytes_eq-Decides name x.name).0 e in
        let none : list_any (is_client d.name) cs ≡ false = ap (λ n. list_any (is_client n) cs) same ∙ a.0 in
        let rest : total g (map (in_place d) cs) ≡ total f cs = none-placed f g d cs none (subst (λ n. OthersSame n f g cs) (sym s) o.1) in
        let first : g (cond (is_client d.name x) d x) ≡ g d = ap (λ b. g (cond b d x)) is in
        let last : f x ≡ f c = ap f here in
        omega (arith, rest, first, last)
    by false e k ih =
        let not : is_client d.name x ≡ false = ap (λ n. is_client n x) s ∙ e in
        let i = ih k in
        let first : g (cond (is_client d.name x) d x) ≡ g x = ap (λ b. g (cond b d x)) not in
        let same : g x ≡ f x = o.0 e in
        omega (arith, i, first, same)

-- ---- names stay distinct

pub distinct-placed : (d : NamedClient) (cs : List NamedClient) → AreDistinct cs → AreDistinct (map (in_place d) cs)
distinct-placed d [] h = h
distinct-placed d (c ∷ cs) h = (by (is_client d.name c) refl, distinct-placed d cs h.1)
  where
    by : (b : Bool) → is_client d.name c ≡ b → list_any (is_client (cond b d c).name) (map (in_place d) cs) ≡ false
    by true e = any-placed d.name d cs ∙ (ap (λ n. list_any (is_client n) cs) ((bytes_eq-Decides d.name c.name).0 e) ∙ h.0)
    by false e = any-placed c.name d cs ∙ h.0

pub distinct-more : (cs : List NamedClient) (d : NamedClient) → AreDistinct cs → list_any (is_client d.name) cs ≡ false → AreDistinct (cs ++ (d ∷ []))
distinct-more [] d h n = (refl, tt)
distinct-more (c ∷ cs) d h n = (by (is_client d.name c) refl n, distinct-more cs d h.1 (later (is_client d.name c) n))
  where
    later : (b : Bool) → b || list_any (is_client d.name) cs ≡ false → list_any (is_client d.name) cs ≡ false
    later true k = (cc)
    later false k = k

    turned : (t : Bool) → is_client c.name d ≡ t → is_client d.name c ≡ false → t ≡ false
    turned false e k = refl
    turned true e k =
        let same : c.name ≡ d.name = (bytes_eq-Decides c.name d.name).0 e in
        sym ((bytes_eq-Decides d.name c.name).1 (sym same)) ∙ k

    last : (xs : List NamedClient) → is_client c.name d ≡ false → list_any (is_client c.name) xs ≡ false → list_any (is_client c.name) (xs ++ (d ∷ [])) ≡ false
    last [] e k = ap (λ b. b || false) e
    last (x ∷ xs) e k = first (is_client c.name x) k (λ g. last xs e g)
      where
        first : (b : Bool) → b || list_any (is_client c.name) xs ≡ false → (list_any (is_client c.name) xs ≡ false
            → list_any (is_client c.name) (xs ++ (d ∷ [])) ≡ false) → b || list_any (is_client c.name) (xs ++ (d ∷ [])) ≡ false
        first true g ih = (cc)
        first false g ih = ih g

    by : (b : Bool) → is_client d.name c ≡ b → b || list_any (is_client d.name) cs ≡ false → list_any (is_client c.name) (cs ++ (d ∷ [])) ≡ false
    by true e k = (cc)
    by false e k = last cs (turned (is_client c.name d) refl e) h.0
