-- Core numbers and k-orders: the order is a certificate, peeling works the numbers out, running maxima along a k-order; later neighbours.

pub mod Orders
pub mod Later
pub mod Certificate
pub mod Peeling
pub mod KOrders
pub mod RunningMaximum
pub mod RunningCertificate
