-- Records compared by all of their fields, where what a caller says is the same: the comparison is of what follows. Assumes nothing.
use mathlib.Core.Path.{◌≡◌, refl, sym, ap, ◌∙◌}
use mathlib.Core.Bool.{Bool, true, false, ◌&&◌}
use Rattle.layout.specs.declared.Fields.{Fields}
use Rattle.layout.specs.declared.RasterLayout.{RasterLayout}
use Rattle.layout.specs.contracts.FieldsPartialEq.TheImpl as fields
use Rattle.layout.specs.contracts.FieldsEq.TheImpl.Laws as fields_law
use Rattle.layout.specs.contracts.RasterLayoutPartialEq.TheImpl as whole
use Rattle.layout.specs.Layout.{agreement}

regrouped : (a b c : Bool) → (a && (b && c)) ≡ ((a && b) && c)
regrouped true b c = refl
regrouped false b c = refl

same_fields : (f : Fields) → fields.eq-value.it f f ≡ true
same_fields f = fields_law.lawful.laws.refl f

pub compared : (l right : RasterLayout) → l.fields ≡ right.fields → whole.eq-value.it l right ≡ agreement l right
unfolding agreement
compared l right e = rw (ap (fields.eq-value.it l.fields) (sym e) ∙ same_fields l.fields) (simp regrouped)

abbrev pub fields_of : RasterLayout → Fields
fields_of l = l.fields
