use Rattle.std.proofs.Common.{ℕ, ◌^◌, ◌<◌, arith}
use Rattle.words.specs.declared.gadget.Gadget.{Gadget}
use Rattle.words.specs.Gadgets.{SplitRight}
use Rattle.words.proofs.Cover.{split_right}
use Rattle.words.proofs.gadget.Gadget.split.Goals as goal

right_of : (g : Gadget) (x : ℕ) → SplitRight g.modulus.value (2 ^ g.shift) (2 ^ g.width) g.digits x
right_of g x =
    let some : 0 < g.modulus.value = omega (arith, g.modulus.low) in
    split_right g.modulus.value g.shift g.width g.digits x some g.base.0 g.count.0 g.reach

pub returns-then-out-self-clause-right : goal.returns-then-out-self-clause-right
returns-then-out-self-clause-right c = right_of c.args.self.now c.args.word

pub returns-clause-right : goal.returns-clause-right
returns-clause-right c = right_of c.args.self.now c.args.word
