use Rattle.std.proofs.Common.{◌≡◌, ℕ, ◌+◌, ◌-◌, ◌*◌, ◌≤◌, map, length, refl, ap, ◌∙◌, arith, rules}
use Rattle.std.proofs.lemmas.List.{length-map}
use Rattle.set.specs.declared.numbers.Numbers.{Numbers}
use Rattle.registers.specs.Marks.{State, state_of}
use Rattle.registers.specs.Registers.{numbers_of, wide}
use Rattle.registers.specs.Steps.{Gates, gates_by}
use Rattle.calls.specs.Calls.{asked}
use Rattle.calls.proofs.Pushes.{goes_none, goes-all, serve_more, slot_room, size_is, part_long}
use Rattle.calls.proofs.lend.Loaded.each.Goals as goal

pub loop-i-init : goal.loop-i-init
loop-i-init g c =
    let m : Numbers = numbers_of c.args.self.now.engine.now.set in
    let count : ℕ = g.S.Sweep.count c.args.self.now.engine.now.set.within in
    let gates : Gates = gates_by g.S.Sweep.defined g.K.Kernel.reads g.S.Sweep.count c.args.self.now.engine.now.set c.args.self.now.keys.start.now c.args.self.now.keys.selectors.now c.args.self.now.keys.rows.now in
    let begun : State = state_of c.args.file.now c.args.regs.now in
    goes_none gates m count (map asked c.args.calls.now) begun c.args.got.now c.args.reads.now

pub loop-i-preserved : goal.loop-i-preserved
loop-i-preserved g c =
    let m : Numbers = numbers_of c.args.self.now.engine.now.set in
    let count : ℕ = g.S.Sweep.count c.args.self.now.engine.now.set.within in
    let gates : Gates = gates_by g.S.Sweep.defined g.K.Kernel.reads g.S.Sweep.count c.args.self.now.engine.now.set c.args.self.now.keys.start.now c.args.self.now.keys.selectors.now c.args.self.now.keys.rows.now in
    let begun : State = state_of c.args.file.now c.args.regs.now in
    let size : ℕ = c.cipher_words-size.result + 1 in
    let at : ℕ = c.loop-i.i * (c.cipher_words-size.result + 1) in
    let sz = size_is c.args.self.now.engine.now.set c.set.result.now c.cipher_words-size.result c.set.ensures c.cipher_words-size.ensures.value in
    let room : c.loop-i.i * (c.cipher_words-size.result + 1) + (c.cipher_words-size.result + 1) ≤ length c.loop-i.reads =
    slot_room c.loop-i.i (length c.args.calls.now) (c.cipher_words-size.result + 1) (wide (numbers_of c.args.self.now.engine.now.set) + 1) (length c.loop-i.reads) sz (c.loop-i.auto.reads ∙ c.requires.reads) (omega arith) in
    serve_more gates m count c.args.calls.now begun c.loop-i.i size at (at + size - at) (state_of c.loop-i.file c.loop-i.regs) (state_of c.serve.new.file c.serve.new.regs)
    c.loop-i.got c.loop-i.reads c.serve.new.slot c.serve.result _ (omega arith) (omega arith) sz refl
    room
    c.serve.ensures.answer c.serve.ensures.state c.serve.ensures.slot (c.serve.auto.slot ∙ part_long at size c.loop-i.reads room) (omega arith) c.loop-i.invariant

pub returns : goal.returns
returns g c =
    let m : Numbers = numbers_of c.args.self.now.engine.now.set in
    let count : ℕ = g.S.Sweep.count c.args.self.now.engine.now.set.within in
    let gates : Gates = gates_by g.S.Sweep.defined g.K.Kernel.reads g.S.Sweep.count c.args.self.now.engine.now.set c.args.self.now.keys.start.now c.args.self.now.keys.selectors.now c.args.self.now.keys.rows.now in
    let begun : State = state_of c.args.file.now c.args.regs.now in
    let e = length-map c.args.calls.now asked in
    let h = goes-all gates m count (map asked c.args.calls.now) begun c.loop-i.i (state_of c.loop-i.file c.loop-i.regs) c.loop-i.got c.loop-i.reads
    (omega arith) (omega arith) (c.loop-i.auto.reads ∙ c.requires.reads ∙ ap (λ (k : ℕ). k * (wide m + 1)) (let k : length c.args.calls.now ≡ length (map asked c.args.calls.now) = omega arith in k)) c.loop-i.invariant in
    record { answers = h.0; reads = h.1; state = h.2 }

pub overflow_add-slot : goal.overflow_add-slot
overflow_add-slot g c =
    let sz = size_is c.args.self.now.engine.now.set c.set.result.now c.cipher_words-size.result c.set.ensures c.cipher_words-size.ensures.value in
    let room : c.loop-i.i * (c.cipher_words-size.result + 1) + (c.cipher_words-size.result + 1) ≤ length c.loop-i.reads =
    slot_room c.loop-i.i (length c.args.calls.now) (c.cipher_words-size.result + 1) (wide (numbers_of c.args.self.now.engine.now.set) + 1) (length c.loop-i.reads) sz (c.loop-i.auto.reads ∙ c.requires.reads) (omega arith) in
    search rules

pub offset_bounds-reads-at : goal.offset_bounds-reads-at
offset_bounds-reads-at g c =
    let sz = size_is c.args.self.now.engine.now.set c.set.result.now c.cipher_words-size.result c.set.ensures c.cipher_words-size.ensures.value in
    let room : c.loop-i.i * (c.cipher_words-size.result + 1) + (c.cipher_words-size.result + 1) ≤ length c.loop-i.reads =
    slot_room c.loop-i.i (length c.args.calls.now) (c.cipher_words-size.result + 1) (wide (numbers_of c.args.self.now.engine.now.set) + 1) (length c.loop-i.reads) sz (c.loop-i.auto.reads ∙ c.requires.reads) (omega arith) in
    search rules

pub slice_bounds-slot-end : goal.slice_bounds-slot-end
slice_bounds-slot-end g c =
    let sz = size_is c.args.self.now.engine.now.set c.set.result.now c.cipher_words-size.result c.set.ensures c.cipher_words-size.ensures.value in
    let room : c.loop-i.i * (c.cipher_words-size.result + 1) + (c.cipher_words-size.result + 1) ≤ length c.loop-i.reads =
    slot_room c.loop-i.i (length c.args.calls.now) (c.cipher_words-size.result + 1) (wide (numbers_of c.args.self.now.engine.now.set) + 1) (length c.loop-i.reads) sz (c.loop-i.auto.reads ∙ c.requires.reads) (omega arith) in
    omega arith
