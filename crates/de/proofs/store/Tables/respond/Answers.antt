use Rattle.std.proofs.Common.{rules, ◌≡◌, true, false, ◌&&◌, length, refl, arith}
use Rattle.std.proofs.lemmas.Bool.{lt-ltb, le-ltb}
use Rattle.de.specs.Moves.{sheets}
use Rattle.de.specs.Asked.{opens_any}
use Rattle.document.specs.Reader.{scalar?, text?, option?, variant?, seq?, map?, tuple?}
use Rattle.de.proofs.Responding.{responds_full, responds_rootless, responds_unit, responds_lone, responds_end, responds}
use Rattle.de.proofs.store.Tables.respond.Goals as goal

-- a place too many
pub returns-then-opens_any : goal.returns-then-opens_any
returns-then-opens_any g c =
    let full : (c.args.deep && opens_any c.args.question) ≡ true = search rules in
    responds_full (g.C.Column.meaning c.args.source.now.kind.now) c.args.source.now.input.now c.args.r c.args.question c.args.deep (sheets c.args.self.now) full

-- no record for the root
pub returns-then-len-lt2 : goal.returns-then-len-lt2
returns-then-len-lt2 g c =
    let roomy : (c.args.deep && opens_any c.args.question) ≡ false = search rules in
    responds_rootless (g.C.Column.meaning c.args.source.now.kind.now) c.args.source.now.input.now c.args.r c.args.question c.args.deep (sheets c.args.self.now) roomy
    (le-ltb 1 (length c.args.self.now.nodes.items) (omega (arith, c.len.ensures, c.args.self.now.nodes.ok.0)))

-- the other questions ask a node
pub consult-requires-in-Scalar-clause-asks : goal.consult-requires-in-Scalar-clause-asks
consult-requires-in-Scalar-clause-asks g c = (scalar? _, refl)

pub consult-requires-in-Text-clause-asks : goal.consult-requires-in-Text-clause-asks
consult-requires-in-Text-clause-asks g c = (text?, refl)

pub consult-requires-in-Option-clause-asks : goal.consult-requires-in-Option-clause-asks
consult-requires-in-Option-clause-asks g c = (option?, refl)

pub consult-requires-in-Variant-clause-asks : goal.consult-requires-in-Variant-clause-asks
consult-requires-in-Variant-clause-asks g c = (variant?, refl)

pub consult-requires-in-Seq-clause-asks : goal.consult-requires-in-Seq-clause-asks
consult-requires-in-Seq-clause-asks g c = (seq? _, refl)

pub consult-requires-in-Map-clause-asks : goal.consult-requires-in-Map-clause-asks
consult-requires-in-Map-clause-asks g c = (map? _, refl)

pub consult-requires-clause-asks : goal.consult-requires-clause-asks
consult-requires-clause-asks g c = (tuple? _, refl)

-- a unit
pub returns-in-Unit : goal.returns-in-Unit
returns-in-Unit g c =
    let roomy : (c.args.deep && opens_any c.args.question) ≡ false = search rules in
    rw c.shut.ensures
    (responds_unit (g.C.Column.meaning c.args.source.now.kind.now) c.args.source.now.input.now c.args.r c.args.question c.args.deep (sheets c.args.self.now) roomy
    (lt-ltb 1 (length c.args.self.now.nodes.items) (omega (arith, c.len.ensures, c.args.self.now.nodes.ok.0))) c.in-Unit.is)

-- a `tuple 1`
pub returns-in-Tuple-eq1 : goal.returns-in-Tuple-eq1
returns-in-Tuple-eq1 g c =
    let roomy : (c.args.deep && opens_any c.args.question) ≡ false = search rules in
    responds_lone (g.C.Column.meaning c.args.source.now.kind.now) c.args.source.now.input.now c.args.r c.args.question c.args.deep (sheets c.args.self.now) roomy
    (lt-ltb 1 (length c.args.self.now.nodes.items) (omega (arith, c.len.ensures, c.args.self.now.nodes.ok.0))) (search rules)

-- an `end`
pub returns-in-End : goal.returns-in-End
returns-in-End g c =
    let roomy : (c.args.deep && opens_any c.args.question) ≡ false = search rules in
    responds_end (g.C.Column.meaning c.args.source.now.kind.now) c.args.source.now.input.now c.args.r c.args.question c.args.deep (sheets c.args.self.now) roomy
    (lt-ltb 1 (length c.args.self.now.nodes.items) (omega (arith, c.len.ensures, c.args.self.now.nodes.ok.0))) c.in-End.is

-- the node's value
pub returns-in-Scalar : goal.returns-in-Scalar
returns-in-Scalar g c =
    let roomy : (c.args.deep && opens_any c.args.question) ≡ false = search rules in
    responds (g.C.Column.meaning c.args.source.now.kind.now) c.args.source.now.input.now c.args.r c.args.question c.args.deep (sheets c.args.self.now) roomy
    (lt-ltb 1 (length c.args.self.now.nodes.items) (omega (arith, c.len.ensures, c.args.self.now.nodes.ok.0))) (sheets c.consult-in-Scalar.new.self) c.consult-in-Scalar.result (scalar? _) c.in-Scalar.is
    (search rules) (rw c.in-Scalar.is c.consult-in-Scalar.ensures)

pub returns-in-Text : goal.returns-in-Text
returns-in-Text g c =
    let roomy : (c.args.deep && opens_any c.args.question) ≡ false = search rules in
    responds (g.C.Column.meaning c.args.source.now.kind.now) c.args.source.now.input.now c.args.r c.args.question c.args.deep (sheets c.args.self.now) roomy
    (lt-ltb 1 (length c.args.self.now.nodes.items) (omega (arith, c.len.ensures, c.args.self.now.nodes.ok.0))) (sheets c.consult-in-Text.new.self) c.consult-in-Text.result (text?) c.in-Text.is
    (search rules) (rw c.in-Text.is c.consult-in-Text.ensures)

pub returns-in-Option : goal.returns-in-Option
returns-in-Option g c =
    let roomy : (c.args.deep && opens_any c.args.question) ≡ false = search rules in
    responds (g.C.Column.meaning c.args.source.now.kind.now) c.args.source.now.input.now c.args.r c.args.question c.args.deep (sheets c.args.self.now) roomy
    (lt-ltb 1 (length c.args.self.now.nodes.items) (omega (arith, c.len.ensures, c.args.self.now.nodes.ok.0))) (sheets c.consult-in-Option.new.self) c.consult-in-Option.result (option?) c.in-Option.is
    (search rules) (rw c.in-Option.is c.consult-in-Option.ensures)

pub returns-in-Variant : goal.returns-in-Variant
returns-in-Variant g c =
    let roomy : (c.args.deep && opens_any c.args.question) ≡ false = search rules in
    responds (g.C.Column.meaning c.args.source.now.kind.now) c.args.source.now.input.now c.args.r c.args.question c.args.deep (sheets c.args.self.now) roomy
    (lt-ltb 1 (length c.args.self.now.nodes.items) (omega (arith, c.len.ensures, c.args.self.now.nodes.ok.0))) (sheets c.consult-in-Variant.new.self) c.consult-in-Variant.result (variant?) c.in-Variant.is
    (search rules) (rw c.in-Variant.is c.consult-in-Variant.ensures)

pub returns-in-Seq : goal.returns-in-Seq
returns-in-Seq g c =
    let roomy : (c.args.deep && opens_any c.args.question) ≡ false = search rules in
    responds (g.C.Column.meaning c.args.source.now.kind.now) c.args.source.now.input.now c.args.r c.args.question c.args.deep (sheets c.args.self.now) roomy
    (lt-ltb 1 (length c.args.self.now.nodes.items) (omega (arith, c.len.ensures, c.args.self.now.nodes.ok.0))) (sheets c.consult-in-Seq.new.self) c.consult-in-Seq.result (seq? _) c.in-Seq.is
    (search rules) (rw c.in-Seq.is c.consult-in-Seq.ensures)

pub returns-in-Map : goal.returns-in-Map
returns-in-Map g c =
    let roomy : (c.args.deep && opens_any c.args.question) ≡ false = search rules in
    responds (g.C.Column.meaning c.args.source.now.kind.now) c.args.source.now.input.now c.args.r c.args.question c.args.deep (sheets c.args.self.now) roomy
    (lt-ltb 1 (length c.args.self.now.nodes.items) (omega (arith, c.len.ensures, c.args.self.now.nodes.ok.0))) (sheets c.consult-in-Map.new.self) c.consult-in-Map.result (map? _) c.in-Map.is
    (search rules) (rw c.in-Map.is c.consult-in-Map.ensures)

pub returns-in-Tuple : goal.returns-in-Tuple
returns-in-Tuple g c =
    let roomy : (c.args.deep && opens_any c.args.question) ≡ false = search rules in
    responds (g.C.Column.meaning c.args.source.now.kind.now) c.args.source.now.input.now c.args.r c.args.question c.args.deep (sheets c.args.self.now) roomy
    (lt-ltb 1 (length c.args.self.now.nodes.items) (omega (arith, c.len.ensures, c.args.self.now.nodes.ok.0))) (sheets c.consult.new.self) c.consult.result (tuple? _) c.in-Tuple.is
    (search rules) (rw c.in-Tuple.is c.consult.ensures)
