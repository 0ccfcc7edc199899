-- What a fault prints: its cause, its place and its layer.
use Rattle.std.specs.Prelude.{ℕ, List, ◌++◌, codes}
use Rattle.std.specs.Fmt.{decimal}
use Rattle.faults.specs.declared.fault.Layer.{Layer}
use Rattle.faults.specs.declared.fault.Layer.TheVariants.{Image, Set, Digits, Kernel, Sweep, Gate, File, Runner, Runs, Secrets}
use Rattle.faults.specs.declared.fault.Place.{Place}
use Rattle.faults.specs.declared.fault.Place.TheVariants.{At, Entry}
use Rattle.faults.specs.declared.fault.Fault.{Fault}
use Rattle.faults.specs.Causes.{number_of, place_of, layer_of}

-- the name of a layer
abbrev pub layer_text : Layer → List ℕ
layer_text Image = codes "image"
layer_text Set = codes "set"
layer_text Digits = codes "digits"
layer_text Kernel = codes "kernel"
layer_text Sweep = codes "sweep"
layer_text Gate = codes "gate"
layer_text File = codes "file"
layer_text Runner = codes "runner"
layer_text Runs = codes "runs"
layer_text Secrets = codes "secrets"

-- one number, or a list and its entry
abbrev pub place_text : Place → List ℕ
place_text (At p) = decimal p
place_text (Entry l e) = decimal l ++ codes "," ++ decimal e

-- the line that tells a refusal
abbrev pub fault_text : Fault → List ℕ
fault_text f =
    codes "fault " ++ decimal (number_of f) ++ codes " " ++ place_text (place_of f) ++ codes " " ++ layer_text (layer_of f)
