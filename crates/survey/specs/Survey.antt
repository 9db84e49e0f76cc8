-- The code's shape and points as those of the rules.
use Rattle.rules.specs.Fit as rule
use Rattle.survey.specs.declared.Shape.{Shape}
use Rattle.survey.specs.declared.Points.{Points}

abbrev pub shape_of : Shape → rule.Shape
shape_of a = rule.shape a.m0 a.n0 a.h

abbrev pub survey_of : Points → rule.Survey
survey_of p = rule.survey p.xs.now p.ys.now p.zs.now p.qs.now
