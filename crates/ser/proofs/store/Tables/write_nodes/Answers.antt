use Rattle.std.proofs.Common.{◌≡◌, ℕ, zero, suc, ◌+◌, ◌-◌, ◌<◌, ◌≤◌, List, [], ◌∷◌, ◌++◌, length, take, drop, Ok, Err, Result, slice_index_or, vec_items, sym, refl, ap, ◌∙◌, subst, ⊎_elim, add-one, arith, length-append, length-drop}
use Rattle.std.proofs.lemmas.Bool.{cases_eq}
use Rattle.std.proofs.lemmas.List.{get_or_default, get_or-take, get_or-drop, length-take-le}
use Rattle.std.proofs.lemmas.Iterator.{YieldsList, YieldsList-from_slice, YieldsList-from_take}
use Rattle.std.proofs.lemmas.Iterator.Adapters.{YieldsList-from_skip}
use Rattle.std.proofs.lemmas.Iterator.Consumers.{YieldsList-at, YieldsList-turn, YieldsList-end}
use Rattle.std.proofs.iter.Yields.{fronts}
use Rattle.std.specs.Iterator.Adapters.{take_source, take_count, take_steps, skip_source, skip_count, skip_steps}
use Rattle.std.specs.Slice.Iter.{iter_rest}
use Rattle.column.specs.Meaning.{Meaning}
use Rattle.column.proofs.Choice.{passed_on}
use Rattle.column.specs.Interface.{Written}
use Rattle.document.specs.declared.refusals.Refusal.{Refusal}
use Rattle.ser.specs.declared.records.Node.{Node}
use Rattle.ser.specs.Moves.{Sheets, sheets, node, blank_node}
use Rattle.ser.specs.Out.{node_image, ordered, image_up_to, image_of, OutSafe, ending, Put}
use Rattle.ser.proofs.Outputs.{put_then, put-stop, put_as}
use Rattle.ser.proofs.store.Tables.write_nodes.Goals as goal

-- what the loop goes over
road : {i s t u : _} (nodes : List Node) (marked : ℕ) → iter_rest i ≡ nodes → skip_source s ≡ i → skip_count s ≡ 1 → take_source t ≡ s → take_count t ≡ marked → u ≡ t
    → YieldsList (take_steps (skip_steps fronts)) (λ y. y.now) u (take marked (drop 1 nodes))
road nodes marked rest skipped one taken count is = YieldsList-at is (YieldsList-from_take marked (YieldsList-at taken (YieldsList-from_skip 1 (YieldsList-at skipped (YieldsList-from_slice nodes rest)) one)) count)

-- the records that name the marked nodes
abbrev naming : Sheets → List Node
naming T = take T.marked (drop 1 T.nodes)

-- they are as many as the marked nodes
length-naming : (T : Sheets) (n : ℕ) → OutSafe T n → length (naming T) ≡ T.marked
length-naming T n S = length-take-le T.marked (drop 1 T.nodes) (⊎_elim (λ z. omega (arith, z)) (λ z. omega (arith, S.listed (T.marked - 1) (omega (arith, z)), length-drop 1 T.nodes)) (cases_eq T.marked 0))

-- the next of them is the record of the node table that names the next node
name_is : (T : Sheets) (n j : ℕ) (x : Node) → OutSafe T n → (j < length (naming T)) × (x ≡ slice_index_or (naming T) j x) → (j < T.marked) × (x ≡ node T (suc j)) × (x.order < length T.nodes)
name_is T n j x S (l, e) =
    let m : j < T.marked = omega (arith, length-naming T n S) in
    let k : 1 + j ≡ suc j = omega arith in
    let is : x ≡ node T (suc j) =
    e ∙ get_or-take T.marked (drop 1 T.nodes) j x m ∙ get_or-drop 1 T.nodes j x ∙ ap (λ i. slice_index_or T.nodes i x) k ∙ get_or_default T.nodes (suc j) x blank_node (S.listed j m) in
    (m, is, subst (λ (y : Node). y.order < length T.nodes) (sym is) (S.within j m))

-- and that is the next node
next_is : (T : Sheets) (j : ℕ) (x y : Node) → (j < T.marked) × (x ≡ node T (suc j)) × (x.order < length T.nodes) → y ≡ slice_index_or T.nodes x.order y → y ≡ ordered T j
next_is T j x y (m, is, l) e = e ∙ get_or_default T.nodes x.order y blank_node l ∙ ap (λ r. node T r.order) is

-- where the bytes of some nodes find no room, those of more do not either
stop-all : (col : Meaning) (T : Sheets) (old new : List ℕ) (e : Refusal) (m n : ℕ) → n ≤ m → Put 0 (image_up_to col T n) old new (Err e) → Put 0 (image_up_to col T m) old new (Err e)
stop-all col T old new e zero n l p = let z : n ≡ 0 = omega arith in put_as (ap (image_up_to col T) z) refl p
stop-all col T old new e (suc m) n l p = ⊎_elim
    (λ z. put_as (ap (image_up_to col T) z) refl p)
    (λ z. put-stop 0 (image_up_to col T m) (node_image col T.cells T.text (ordered T m)) old new e (stop-all col T old new e m n (omega (arith, z)) p))
    (cases_eq n (suc m))

-- the bytes of all nodes, from the first place on
put-all-nodes : (col : Meaning) (T : Sheets) (old new : List ℕ) (r : Result ℕ Refusal) (n : ℕ) → n ≡ T.marked → Put 0 (image_up_to col T n) old new r
    → (r ≡ ending (length (image_of col T)) (length old)) × Written r 0 (image_of col T) old new
unfolding image_of
put-all-nodes col T old new r n e p =
    let q = put_as (ap (image_up_to col T) e) refl p in
    let z : 0 + length (image_up_to col T T.marked) ≡ length (image_up_to col T T.marked) = omega arith in
    (q.answer ∙ ap (λ k. ending k (length old)) z, q.bytes)

-- the next record names a node of the table
pub index-node-requires : goal.index-node-requires
index-node-requires g c =
    let turn = YieldsList-turn (road (vec_items c.args.self.now.nodes) c.args.self.now.marked (c.iter.ensures.rest ∙ c.deref.ensures.value) c.skip.ensures.source c.skip.ensures.count c.take-record-items.ensures.source c.take-record-items.ensures.count
    c.into_iter-record-iterator.ensures.into_iter_gives)
    c.loop-record.yielded _ c.loop-record.yielded_by _ c.next.new.self c.in-Some.record c.in-Some.is c.next.ensures.steps in
    omega (arith, (name_is (sheets c.args.self.now) _ _ _ c.requires turn).2, c.args.self.now.nodes.ok.0)

-- that node is safe
pub write_node-requires-clause-safe : goal.write_node-requires-clause-safe
write_node-requires-clause-safe g c =
    let T = sheets c.args.self.now in
    let turn = YieldsList-turn (road (vec_items c.args.self.now.nodes) c.args.self.now.marked (c.iter.ensures.rest ∙ c.deref.ensures.value) c.skip.ensures.source c.skip.ensures.count c.take-record-items.ensures.source c.take-record-items.ensures.count
    c.into_iter-record-iterator.ensures.into_iter_gives)
    c.loop-record.yielded _ c.loop-record.yielded_by _ c.next.new.self c.in-Some.record c.in-Some.is c.next.ensures.steps in
    let name = name_is T _ _ _ c.requires turn in
    rw (c.loop-record.auto.scratch, next_is T _ _ c.index-node.result.now name c.index-node.ensures) (c.requires.safe _ name.0)

-- its bytes find no room, so those of all do not
pub returns-in_err-place : goal.returns-in_err-place
returns-in_err-place g c =
    let T = sheets c.args.self.now in
    let col = g.C.Column.meaning c.args.kind.now in
    let j = length c.loop-record.yielded in
    let new = c.write_node.new.output in
    let turn = YieldsList-turn (road (vec_items c.args.self.now.nodes) c.args.self.now.marked (c.iter.ensures.rest ∙ c.deref.ensures.value) c.skip.ensures.source c.skip.ensures.count c.take-record-items.ensures.source c.take-record-items.ensures.count
    c.into_iter-record-iterator.ensures.into_iter_gives)
    c.loop-record.yielded _ c.loop-record.yielded_by _ c.next.new.self c.in-Some.record c.in-Some.is c.next.ensures.steps in
    let name = name_is T _ j _ c.requires turn in
    let put = put_as (ap (node_image col T.cells T.text) (next_is T j _ c.index-node.result.now name c.index-node.ensures)) refl c.in_err-place.ensures in
    let here = put_then 0 (image_up_to col T j) (node_image col T.cells T.text (ordered T j)) c.args.output.now c.loop-record.output new c.loop-record.place _ c.loop-record.invariant.2 put in
    let all = stop-all col T c.args.output.now new _ T.marked (suc j) (omega (arith, name.0)) here in
    let p = put-all-nodes col T c.args.output.now new c.from_residual.result T.marked refl (put_as refl (sym (passed_on c.from_residual.result _ c.from_residual.ensures.1)) all) in
    record { answer = p.0; bytes = p.1 }

-- its bytes are put after the others
pub loop-record-preserved : goal.loop-record-preserved
loop-record-preserved g c =
    let T = sheets c.args.self.now in
    let col = g.C.Column.meaning c.args.kind.now in
    let j = length c.loop-record.yielded in
    let turn = YieldsList-turn (road (vec_items c.args.self.now.nodes) c.args.self.now.marked (c.iter.ensures.rest ∙ c.deref.ensures.value) c.skip.ensures.source c.skip.ensures.count c.take-record-items.ensures.source c.take-record-items.ensures.count
    c.into_iter-record-iterator.ensures.into_iter_gives)
    c.loop-record.yielded _ c.loop-record.yielded_by _ c.next.new.self c.in-Some.record c.in-Some.is c.next.ensures.steps in
    let name = name_is T _ j _ c.requires turn in
    let put = put_as (ap (node_image col T.cells T.text) (next_is T j _ c.index-node.result.now name c.index-node.ensures)) refl c.in_ok-place.ensures in
    let more : length (c.loop-record.yielded ++ c.in-Some.record ∷ []) ≡ suc j = length-append c.loop-record.yielded (c.in-Some.record ∷ []) ∙ add-one j in (
      tt,
      tt,
      put_as (ap (image_up_to col T) (sym more)) refl
          (put_then 0 (image_up_to col T j) (node_image col T.cells T.text (ordered T j)) c.args.output.now c.loop-record.output c.write_node.new.output c.loop-record.place _ c.loop-record.invariant.2 put),
    )

-- the bytes of all are put
pub returns : goal.returns
returns g c =
    let T = sheets c.args.self.now in
    let end = YieldsList-end (road (vec_items c.args.self.now.nodes) c.args.self.now.marked (c.iter.ensures.rest ∙ c.deref.ensures.value) c.skip.ensures.source c.skip.ensures.count c.take-record-items.ensures.source c.take-record-items.ensures.count
    c.into_iter-record-iterator.ensures.into_iter_gives)
    c.loop-record.yielded _ c.loop-record.yielded_by _ c.next.new.self c.in-None.is c.next.ensures.steps in
    let p = put-all-nodes (g.C.Column.meaning c.args.kind.now) T c.args.output.now c.loop-record.output (Ok c.loop-record.place) _ (end.1 ∙ length-naming T _ c.requires) c.loop-record.invariant.2 in
    record { answer = p.0; bytes = p.1 }
