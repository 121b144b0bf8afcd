-- Attributes in memory, as plain data.
use Rattle.std.specs.Prelude.{decimal}
use Rattle.flow_chart.specs.declared.page.Attribute as code
use Rattle.flow_chart.specs.declared.page.Attribute.TheVariants.{Worded, Measured}
use Rattle.flow_chart.specs.Elements.{Attribute}

abbrev pub attribute_of : code.Attribute → Attribute
attribute_of (Worded name value) = record { name = name.now; value = value.now }
attribute_of (Measured name value) = record { name = name.now; value = decimal value }
