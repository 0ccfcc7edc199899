-- The polynomial that words read as, by stages and in one sum.
use Rattle.std.specs.Prelude.{◌≡◌, ℕ, List, pos, slice_index}
use Rattle.algebra.specs.Transform.{interpolated}
use Rattle.algebra.specs.Words.{words}
use Rattle.rings.specs.declared.ring.Ring.{Ring}
use Rattle.rings.specs.Tables.{mirror}
use Rattle.kernels.specs.Polynomials.{poly_of}
use Rattle.transform.specs.Pointwise.{scaled}
use Rattle.transform.specs.Stages.{unruns}

-- all stages taken back, and the factor 1 / N
abbrev pub reads : Ring → List ℕ → List ℕ
reads r w = scaled r (unruns r r.log (poly_of r w))

-- that is the polynomial whose value at ψ^(2 i + 1) is the word of that odd number's place
abbrev pub Interpolates : Type 0
Interpolates = (r : Ring) (w : List ℕ)
    → reads r w ≡ words r.degree r.modulus (interpolated r.modulus r.degree r.log (pos r.root) (λ i. pos (slice_index w (mirror r.log i))))
