use Rattle.std.proofs.Common.{◌≡◌, suc, ◌-◌, ◌^◌, ◌++◌, take}
use Rattle.words.specs.Digits.{digits_of}
use Rattle.words.proofs.gadget.Gadget.fill.Given as goal

abbrev pub invariant-loop-place : goal.invariant-loop-place
invariant-loop-place l =
    take l.place-index l.place-items ++ digits_of (2 ^ l.self.width) (suc (l.place-index-end - l.place-index)) l.u
    ≡ digits_of (2 ^ l.self.width) (suc l.place-index-end) l.initial.u
