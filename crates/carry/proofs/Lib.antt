pub mod Laying
pub mod Stood
