-- The table of causes: number, row, place and layer of each fault.
use Rattle.std.specs.Prelude.{ℕ}
use Rattle.faults.specs.declared.fault.Layer.{Layer}
use Rattle.faults.specs.declared.fault.Layer.TheVariants.{Image, Set, File, Runner, Secrets}
use Rattle.faults.specs.declared.fault.Place.{Place}
use Rattle.faults.specs.declared.fault.Place.TheVariants.{At, Entry}
use Rattle.faults.specs.declared.fault.Fault.{Fault}
use Rattle.faults.specs.declared.fault.Fault.TheVariants.{Directory, Field, Cover, Root, Closing, PartLength, Length, ImageWord, Order, Register, Empty, CipherWord, Secret, Inverse, Sample, Phase}

-- the number by which users know the cause
abbrev pub number_of : Fault → ℕ
number_of (Directory p) = 1
number_of (Field i) = 2
number_of (Cover i) = 3
number_of Root = 4
number_of (Closing c) = 5
number_of (PartLength p) = 6
number_of (Length l w) = 7
number_of (ImageWord o) = 8
number_of (Order o) = 9
number_of (Register r) = 10
number_of (Empty r) = 11
number_of (CipherWord i w) = 12
number_of (Secret l e) = 13
number_of (Inverse c) = 14
number_of (Sample l e) = 15
number_of (Phase p) = 16

-- the row in the table: of two faults, that of the higher row (the smaller number) is answered
abbrev pub row_of : Fault → ℕ
row_of (Directory p) = 1
row_of (Field i) = 2
row_of (Cover i) = 3
row_of Root = 4
row_of (Closing c) = 5
row_of (PartLength p) = 6
row_of (Length l w) = 7
row_of (ImageWord o) = 8
row_of (Order o) = 9
row_of (Register r) = 10
row_of (Empty r) = 11
row_of (CipherWord i w) = 12
row_of (Secret l e) = 13
row_of (Inverse c) = 14
row_of (Sample l e) = 15
row_of (Phase p) = 16

-- where the fault lies
abbrev pub place_of : Fault → Place
place_of (Directory p) = At p
place_of (Field i) = At i
place_of (Cover i) = At i
place_of Root = At 4
place_of (Closing c) = At c
place_of (PartLength p) = At p
place_of (Length l w) = At l
place_of (ImageWord o) = At o
place_of (Order o) = At o
place_of (Register r) = At r
place_of (Empty r) = At r
place_of (CipherWord i w) = At i
place_of (Secret l e) = Entry l e
place_of (Inverse c) = At c
place_of (Sample l e) = Entry l e
place_of (Phase p) = At p

-- the layer in which it began
abbrev pub layer_of : Fault → Layer
layer_of (Directory p) = Image
layer_of (Field i) = Set
layer_of (Cover i) = Set
layer_of Root = Set
layer_of (Closing c) = Set
layer_of (PartLength p) = Image
layer_of (Length l w) = w
layer_of (ImageWord o) = Image
layer_of (Order o) = Runner
layer_of (Register r) = File
layer_of (Empty r) = File
layer_of (CipherWord i w) = w
layer_of (Secret l e) = Secrets
layer_of (Inverse c) = Secrets
layer_of (Sample l e) = Secrets
layer_of (Phase p) = Secrets
