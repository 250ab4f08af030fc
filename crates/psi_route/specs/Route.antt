-- What a `Route` stands for.
use Rattle.psi_route.specs.Routing.{Shape}
use Rattle.psi_route.specs.Accepted.{shape}
use Rattle.psi_route.specs.declared.route.Route.{Route}

-- the shape of a route
abbrev pub shape_of : Route → Shape
shape_of route = shape route.caps route.source route.size route.targets route.tables.items route.full
